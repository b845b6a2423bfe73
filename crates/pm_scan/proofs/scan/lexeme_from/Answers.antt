use Rattle.pm_scan.proofs.Scanning.{block_from}
use Rattle.pm_scan.proofs.scan.lexeme_from.Goals as goal

pub returns-in-47 : goal.returns-in-47
returns-in-47 c = block_from c.args.first c.args.rest.now _ c.in-47.is c.if-begins_with.ensures c.block_comment.ensures
