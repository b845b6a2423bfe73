use Rattle.std.proofs.Common.{◌≡◌, Bool, true, false, List, [], rules, sym, subst}
use Rattle.std.specs.List.Sorted.{IsPartitionPoint, IsPartitionedBy}
use Rattle.std.proofs.lemmas.List.Sorted.{IsPartitionPoint-from_clause}
use Rattle.pm_choice.specs.declared.Bound.TheVariants.{At, End}
use Rattle.pm_book.specs.declared.row.BookRow.{BookRow}
use Rattle.pm_book.specs.Rows.{is_before}
use Rattle.pm_book.specs.Shown.{lower}
use Rattle.pm_book.proofs.Located.{parted}
use Rattle.pm_book.proofs.tables.Tables.rows_below.Goals as goal

pub returns-clause-parted : goal.returns-clause-parted
returns-clause-parted c =
    let rows = c.args.self.now.rows.items in
    let p : BookRow → Bool = λ row. is_before (lower c.args.self.now.cuts.items row.from) c.args.list.now in
    let has : IsPartitionedBy p c.deref.result.now = subst (IsPartitionedBy p) (sym c.deref.ensures.value) (parted (At []) End c.args.self.now.cuts.items rows c.args.list.now c.requires.tiled) in
    subst (λ (l : List BookRow). IsPartitionPoint (λ row. p row ≡ true) (λ row. p row ≡ false) l c.partition_point.result) c.deref.ensures.value
    (IsPartitionPoint-from_clause p _ _ c.partition_point.ensures.partitioned has (λ a r q k. search rules))
