-- What the files that words name hold.
use Rattle.std.specs.Prelude.{ℕ, List, [], length, Option, None, Some, if◌then◌else◌, nat_le}
use Rattle.std.specs.FinMap as map
use Rattle.pm_outside.specs.Outside.{Files}
use Rattle.pm_args.specs.Words.{Text}
use Rattle.pm_args.specs.Jobs.{Job, prove, check, code, clauses, sample}
use Rattle.pm_top.specs.declared.files.TheConstants.{MAX_CERT_BYTES, MAX_FILE_BYTES}

-- what there is under a name: no file, one with more bytes than its limit, or these bytes
pub data Held : Type 0 where
  missing : Held
  over_limit : Held
  these_bytes : List ℕ → Held

-- what there is under a name whose file has at most so many bytes
abbrev pub held_of : ℕ → Option (List ℕ) → Held
held_of limit None = missing
held_of limit (Some bytes) =
    if nat_le (length bytes) limit then these_bytes bytes else over_limit

-- the same of the name, if there is one, among files
abbrev pub held_in : Files → ℕ → Option Text → Held
held_in files limit None = missing
held_in files limit (Some name) = held_of limit (map.get files name)

-- the clause file that a job names
abbrev pub clauses_named : Job → Option Text
clauses_named (prove file options) = Some file
clauses_named (check file cert) = Some file
clauses_named (code file) = Some file
clauses_named (clauses file) = Some file
clauses_named (sample n options) = None

-- the certificate that a job names
abbrev pub cert_named : Job → Option Text
cert_named (check file cert) = Some cert
cert_named job = None

-- what the clause file and the certificate hold
pub record Given : Type 0 where
  pub clauses : Held
  pub certificate : Held

-- what the files hold for a job, or for words that are none
abbrev pub given_by : Files → Option Job → Given
given_by files None = record { clauses = missing; certificate = missing }
given_by files (Some job) =
    record {
      clauses = held_in files MAX_FILE_BYTES (clauses_named job);
      certificate = held_in files MAX_CERT_BYTES (cert_named job);
    }
