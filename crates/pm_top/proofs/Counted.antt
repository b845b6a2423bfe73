-- What the parts of a run do to its library, one after the other.
use Rattle.std.proofs.Common.{◌≡◌, ℕ, ◌+◌, ◌-◌, ◌^◌, ◌<◌, ◌≤◌, inl, inr, Option, Some, None, refl, ◌∙◌, ap, subst, arith}
use Rattle.std.specs.Prelude.{◌⊎◌, IsErrOf, Ok}
use Rattle.pm_outside.specs.Outside.{LibraryView, Rose, CountsOnly}
use Rattle.pm_top.specs.declared.answer.Answer.{Answer}
use Rattle.pm_top.specs.declared.status.Status.TheVariants as ends
use Rattle.pm_top.specs.Inside.Stops.{EndsWith, CountsStops}

-- ---- one count
rose_later : (before mid after : ℕ) → before ≤ mid → Rose mid after → Rose before after
rose_later before mid after le (inl less) = inl (omega (arith, le, less))
rose_later before mid after le (inr last) = inr last

counts_on : (before mid after : ℕ) (first second : Type 0) → ¬ first → CountsOnly first before mid → CountsOnly second mid after → CountsOnly second before after
counts_on before mid after first second not_first (low, inl same) (le, inl stays) = (omega (arith, low, le), inl (stays ∙ same))
counts_on before mid after first second not_first (low, inl same) (le, inr is) = (omega (arith, low, le), inr is)
counts_on before mid after first second not_first (low, inr is) h = absurd (not_first is)

pub counts_so : (before after : ℕ) (first second : Type 0) → (first → second) → CountsOnly first before after → CountsOnly second before after
counts_so before after first second go (le, inl same) = (le, inl same)
counts_so before after first second go (le, inr is) = (le, inr (go is))

-- ---- the library

-- a part that goes on, and then another
pub counted_then : (before mid after : LibraryView) (answer : Option Answer) (stopped fault : Type 0) → ¬ stopped
    → CountsStops before mid None stopped → CountsStops mid after answer fault → CountsStops before after answer fault
counted_then before mid after answer stopped fault goes first second = record {
  misses = counts_on before.misses mid.misses after.misses (EndsWith None ends.Missing) (EndsWith answer ends.Missing) (λ h. h) first.misses second.misses;
  longs = counts_on before.longs mid.longs after.longs (EndsWith None ends.BadInput) (EndsWith answer ends.BadInput) (λ h. h) first.longs second.longs;
  faults = counts_on before.faults mid.faults after.faults stopped fault goes first.faults second.faults;
  missing = λ is. rose_later before.misses mid.misses after.misses first.misses.0 (second.missing is);
  failed = λ is. rose_later before.faults mid.faults after.faults first.faults.0 (second.failed is);
  told = second.told ∙ first.told;
}

-- a part that doesn't look at the library
pub counted_not : (library : LibraryView) (answer : Option Answer) (fault : Type 0) → ¬ EndsWith answer ends.Missing → ¬ fault → CountsStops library library answer fault
counted_not library answer fault there goes = record {
  misses = (omega arith, inl refl);
  longs = (omega arith, inl refl);
  faults = (omega arith, inl refl);
  missing = λ is. absurd (there is);
  failed = λ is. absurd (goes is);
  told = refl;
}

-- a file that was too long, after one that was read
pub long_later : (before mid after : LibraryView) (stopped : Type 0) → CountsStops before mid None stopped → Rose mid.longs after.longs → Rose before.longs after.longs
long_later before mid after stopped first rose = rose_later before.longs mid.longs after.longs first.longs.0 rose

-- a value is no error
pub never_err : {T E : Type 0} (value : T) (error : E) → ¬ IsErrOf (Ok value) error
never_err value error is = cc
