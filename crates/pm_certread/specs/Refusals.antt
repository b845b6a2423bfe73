-- What a refusal of a certificate says.
use Rattle.std.specs.Prelude.{ℕ, List}
use Rattle.pm_logic.specs.Problem.{Problem}
use Rattle.pm_certread.specs.declared.error.CertError.{CertError}
use Rattle.pm_certread.specs.declared.error.CertError.TheVariants.{At, Memory}
use Rattle.pm_certread.specs.Reading.{refused, Reads}

-- the bytes' first refusal is this one; of want of memory nothing is said
abbrev pub Refuses : Problem → List ℕ → CertError → Type 0
Refuses over bytes (At line kind) = Reads over bytes (refused line kind)
Refuses over bytes Memory = Unit {0}
