-- How a sink in memory is stored.
use Rattle.std.specs.Prelude.{refl, ℕ, List}
use Rattle.std.specs.Ordering.{nat_cmp}
use Rattle.std.specs.FinMap as map
use Rattle.std.specs.Coded.{Coded, code_by, coded×, coded_list, coded_ℕ}
use Rattle.pm_outside.specs.MemorySink.{SinkState}

-- a sink is stored as the tuple of its fields
abbrev pub sink_code : Coded SinkState
sink_code =
    code_by ((List ℕ × ℕ) × (map.FinMap nat_cmp ℕ × (ℕ × ℕ)))
    (coded× (coded× (coded_list coded_ℕ) coded_ℕ)
    (coded× (map.code coded_ℕ coded_ℕ) (coded× coded_ℕ coded_ℕ)))
    (λ s. ((s.written, s.room), (s.failing, (s.calls, s.faults))))
    (λ t. record {
      written = t.0.0;
      room = t.0.1;
      failing = t.1.0;
      calls = t.1.1.0;
      faults = t.1.1.1;
    })
    (λ _. refl)
