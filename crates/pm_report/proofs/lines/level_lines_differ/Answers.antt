use Rattle.pm_report.proofs.LineLemmas as lemmas
use Rattle.pm_report.proofs.lines.level_lines_differ.Goals as goal

pub returns : goal.returns
returns c = lemmas.level_lines_differ
