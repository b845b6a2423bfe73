use Rattle.std.proofs.Common.{◌≡◌, ◌+◌, ◌-◌, [], All, length}
use Rattle.pm_compile.specs.Inside.Ground.{IsRowOver}
use Rattle.pm_compile.specs.Inside.Heads.{ComesToHead, head_of}
use Rattle.pm_compile.proofs.heads.append_head.Given as goal

-- with what is pending the head code is whole
abbrev pub invariant-rows : goal.invariant-rows
invariant-rows l = record {
  comes : ComesToHead l.source.problem.now.terms l.fn.instrs.items l.instrs.items l.seen l.pending.items (head_of l.source.problem.now.terms [] l.args);
  rows : All (IsRowOver l.source.problem.now.symbols l.source.problem.now.terms) l.pending.items;
  head : l.seen.head ≡ l.fn.seen.head;
  count : length l.seen.heads.items ≡ length l.fn.seen.heads.items;
}

-- each step appends an instruction of the head code
abbrev pub decreases-rows : goal.decreases-rows
decreases-rows l =
    (length l.fn.instrs.items + length (head_of l.source.problem.now.terms [] l.args)) - length l.instrs.items
