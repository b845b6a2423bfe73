use Rattle.std.proofs.Common.{arith}
use Rattle.pm_cnf.proofs.written.WrittenBack.{written_reads_back}
use Rattle.pm_cnf.proofs.laws.written_clauses_read_back.Goals as goal

pub returns : goal.returns
returns c limits bytes problem few read = written_reads_back limits bytes problem (omega (arith, few)) read
