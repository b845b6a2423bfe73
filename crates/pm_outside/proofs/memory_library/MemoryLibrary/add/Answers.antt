use Rattle.std.proofs.Common.{◌≡◌, ap, ◌∙◌}
use Rattle.std.specs.FinMap.{insert}
use Rattle.std.specs.String.{string_bytes}
use Rattle.pm_outside.specs.Inside.MemoryLibrary.{files_of}
use Rattle.pm_outside.proofs.Fetches.{with_files}
use Rattle.pm_outside.proofs.Lookups.{files_of-insert}
use Rattle.pm_outside.specs.contracts.memory_library.MemoryLibrary.{the_view}
use Rattle.pm_outside.proofs.memory_library.MemoryLibrary.add.Goals as goal

pub returns-clause-ok : goal.returns-clause-ok
returns-clause-ok c =
    let files = files_of c.self.inside.files.entries in
    let more : files_of c.insert.new.self.entries ≡ insert files (string_bytes c.in_ok-key.key) c.in_ok-copy.copy.items =
    files_of-insert c.self.inside.files c.insert.new.self c.in_ok-key.key c.in_ok-copy.copy c.in_ok-insert.ensures.updates in
    let same : insert files (string_bytes c.in_ok-key.key) c.in_ok-copy.copy.items ≡ insert files c.args.name.now c.args.bytes.now =
    rw (c.in_ok-key.ensures.ok, c.in_ok-copy.ensures.items) in
    rw (← c.self.view_is) (ap (with_files (the_view c.self.inside)) (more ∙ same))
