use Rattle.std.proofs.Common.{rules, true, false, List, length, ◌≡◌, ◌∙◌, sym, ap, subst, arith}
use Rattle.std.specs.List.Sorted.{IsPartitionedBy, IsPartitionPoint}
use Rattle.std.proofs.lemmas.List.Sorted.{IsPartitionPoint-from_clause}
use Rattle.pm_calculus.specs.Skeleton.{Face}
use Rattle.pm_calculus.specs.Alternatives.{Head, heads}
use Rattle.pm_lift.specs.Inside.Tree.{is_before}
use Rattle.pm_lift.proofs.HeadLemmas.{heads_partitioned, place_at_point}
use Rattle.pm_lift.proofs.lift.place_of_head.Goals as goal

pub returns-clause-place : goal.returns-clause-place
returns-clause-place c clauses index =
    let face : Face = record { positive = c.args.positive; predicate = c.args.predicate } in
    let head : Head = record { clause = c.args.clause; literal = c.args.literal } in
    let same : c.heads.result.now ≡ heads face clauses = c.heads.ensures ∙ index.its_heads face in
    let parted : IsPartitionedBy (λ h. is_before h head) c.heads.result.now = subst (IsPartitionedBy (λ h. is_before h head)) (sym same) (heads_partitioned face clauses head) in
    let point = IsPartitionPoint-from_clause (λ h. is_before h head) c.heads.result.now c.partition_point.result c.partition_point.ensures.partitioned parted (λ a r f' k. search rules) in
    place_at_point face clauses head c.partition_point.result (omega (arith, c.partition_point.ensures.bound, ap length same))
    (subst (λ (hs : List Head). IsPartitionPoint (λ h. is_before h head ≡ true) (λ h. is_before h head ≡ false) hs c.partition_point.result) same point)
