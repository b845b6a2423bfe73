use Rattle.std.proofs.Common.{ap, sym, ◌∙◌, Some}
use Rattle.std.specs.Option.{option_map}
use Rattle.pm_outside.proofs.Lookups.{get-files_of, bytes_of}
use Rattle.pm_outside.proofs.memory_library.MemoryLibrary.file.Goals as goal

pub returns-in-Some : goal.returns-in-Some
returns-in-Some c =
    rw (← c.self.view_is) (ap Some c.as_slice.ensures.value ∙ ap (option_map bytes_of) c.in-Some.ensures.value ∙ sym (get-files_of c.self.inside.files c.args.name.now))

pub returns-in-None : goal.returns-in-None
returns-in-None c =
    rw (← c.self.view_is) (ap (option_map bytes_of) c.in-None.ensures.value ∙ sym (get-files_of c.self.inside.files c.args.name.now))
