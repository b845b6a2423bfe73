-- What the checker says of a certificate.
use Rattle.std.proofs.Common.{◌≡◌, ◌∙◌, ◌<◌, ◌≤◌, ◌⊎◌, inl, inr, ℕ, [], length, get_or, Some, sym, ap, refl, subst, arith}
use Rattle.std.specs.Prelude.{slice_get}
use Rattle.std.specs.List.{All}
use Rattle.std.proofs.lemmas.Bool.{cases_order}
use Rattle.std.proofs.lemmas.Option.{slice_get_within, slice_get-get_or}
use Rattle.pm_logic.specs.Problem.{Problem}
use Rattle.pm_logic.specs.Tableau.{Entry, preorder, size}
use Rattle.pm_calculus.proofs.Refutation.{refuted}
use Rattle.pm_certread.specs.Certificate.{Certificate}
use Rattle.pm_certread.specs.Laws.{IsCloserOf}
use Rattle.pm_check.specs.declared.refusal.RefusalKind.{RefusalKind}
use Rattle.pm_check.specs.declared.refusal.RefusalKind.TheVariants.{NotStart, NotInstance, NotComplementary, NotConnected, NotRegular, DepthDiffers, SizeDiffers}
use Rattle.pm_check.specs.declared.refusal.Refusal.{Refusal}
use Rattle.pm_check.specs.Kinds.{rank}
use Rattle.pm_check.specs.PlacedNodes.{placed_nodes}
use Rattle.pm_check.specs.Offences.{OffendsAt, RootOffends, NodeOffends, Offends}
use Rattle.pm_check.specs.Verdicts.{IsClosedAsNamed, AreClosedAsNamed, IsAccepted, IsRefused}
use Rattle.pm_check.specs.Laws.{VerdictsAreDetermined, MembersAreAccepted}
use Rattle.pm_check.specs.Inside.Passing.{IsSound, AllPass, IsFirstNode, IsFirstAtRoot, RootPasses, DiffersInSize}
use Rattle.pm_check.specs.Inside.Ready.{IsCheckable}
use Rattle.pm_check.proofs.MatchingLemmas.{All-stands}
use Rattle.pm_check.proofs.SiblingLemmas.{stands_within}
use Rattle.pm_check.proofs.BranchLemmas.{passes_not}
use Rattle.pm_check.proofs.WalkLemmas.{length-placed}
use Rattle.pm_check.proofs.TreeLemmas.{families_among, connected_among, regular_for, closed_tableau, sound_tableau, zip_at, zip_from, zip_length}

-- ---- acceptance

-- there is a closer for each placed node
closer_count : (over : Problem) (certificate : Certificate) → IsCheckable over certificate → length (placed_nodes certificate.tableau.tableau) ≡ length certificate.closers
closer_count over certificate ready =
    length-placed certificate.tableau.tableau
    ∙ zip_length (λ (entry : Entry) closer. IsCloserOf entry.kind entry.depth closer) (preorder certificate.tableau.tableau) certificate.closers ready.over_problem.closers

all_sound : (over : Problem) (certificate : Certificate) → IsCheckable over certificate → AllPass over certificate (length (placed_nodes certificate.tableau.tableau))
    → All (IsSound over.clauses certificate.class) (placed_nodes certificate.tableau.tableau)
all_sound over certificate ready pass = λ k d lt.
    let placed = placed_nodes certificate.tableau.tableau in
    let ancestor = stands_within certificate.closers k (omega (arith, closer_count over certificate ready)) in
    (pass k (get_or placed k d) ancestor.0 lt (slice_get-get_or placed k d lt) ancestor.1).sound

all_closed : (over : Problem) (certificate : Certificate) → IsCheckable over certificate → AllPass over certificate (length (placed_nodes certificate.tableau.tableau)) → AreClosedAsNamed certificate
all_closed over certificate ready pass =
    let placed = placed_nodes certificate.tableau.tableau in
    zip_from (λ p ancestor. IsClosedAsNamed p.above p.node ancestor) placed certificate.closers (closer_count over certificate ready)
    (λ i p ancestor is named. (pass i p ancestor (slice_get_within placed i p is) is named).closed)

pub member_accepted : MembersAreAccepted
member_accepted over certificate n its_size header class closers = record {
  its_size = its_size;
  header = header;
  class = class;
  closers = closers;
  refuted = refuted over.clauses certificate.tableau.tableau class.over class.closed;
}

pub accepts : (over : Problem) (certificate : Certificate) (n : ℕ) → IsCheckable over certificate → RootPasses over certificate → AllPass over certificate (length (placed_nodes certificate.tableau.tableau))
    → n ≡ size certificate.bound certificate.tableau.tableau → n ≡ certificate.size → IsAccepted over certificate n
accepts over certificate n ready root pass is header =
    let tableau = certificate.tableau.tableau in
    let sound = all_sound over certificate ready pass in
    let closers = all_closed over certificate ready pass in
    member_accepted over certificate n (sym is) (sym header)
    (record {
      start = root.start;
      over = (root.family, families_among over.clauses certificate.class [] tableau.children sound);
      closed = closed_tableau tableau certificate.closers closers;
      connected = connected_among over.clauses certificate.class [] tableau.children sound;
      regular = regular_for over.clauses certificate.class tableau sound;
      within = omega (arith, is);
    })
    closers

-- ---- refusals

root_not : (over : Problem) (certificate : Certificate) → RootPasses over certificate → (kind : RefusalKind) → ¬ RootOffends over.clauses certificate.start certificate.tableau.tableau kind
root_not over certificate root NotStart h = h root.start
root_not over certificate root NotInstance h = h root.family
root_not over certificate root NotComplementary h = h
root_not over certificate root NotConnected h = h
root_not over certificate root NotRegular h = h
root_not over certificate root DepthDiffers h = h
root_not over certificate root SizeDiffers h = h

pub refuses_root : (over : Problem) (certificate : Certificate) (refusal : Refusal) → IsFirstAtRoot over certificate refusal → IsRefused over certificate refusal.line refusal.kind
refuses_root over certificate refusal first = inl (record {
  offends = inl (first.line_is, first.offends);
  first = λ other kind offends. by other kind offends;
})
  where
    by : (other : ℕ) (kind : RefusalKind) → Offends over certificate other kind → (refusal.line < other) ⊎ ((refusal.line ≡ other) × (rank refusal.kind ≤ rank kind))
    by other kind (inl (is, offends)) = inr (first.line_is ∙ sym is, first.first kind offends)
    by other kind (inr node) = inl (omega (arith, first.line_is, node.line_is))

pub refuses_node : (over : Problem) (certificate : Certificate) (refusal : Refusal) → RootPasses over certificate → IsFirstNode over certificate refusal → IsRefused over certificate refusal.line refusal.kind
refuses_node over certificate refusal root first = inl (record {
  offends = inr (record {
    index = first.index;
    placed = first.placed;
    ancestor = first.ancestor;
    line_is = first.line_is;
    stands = first.stands;
    named = first.named;
    offends = first.offends.offends;
  });
  first = λ other kind offends. by other kind offends;
})
  where
    here : (other : ℕ) (kind : RefusalKind) (node : NodeOffends over certificate other kind) → (node.index ≡ first.index) ⊎ ((node.index < first.index) ⊎ (first.index < node.index))
        → (refusal.line < other) ⊎ ((refusal.line ≡ other) × (rank refusal.kind ≤ rank kind))
    here other kind node (inr (inl before)) =
        absurd (passes_not over.clauses certificate.class node.placed node.ancestor (first.before node.index node.placed node.ancestor before node.stands node.named) kind node.offends)
    here other kind node (inr (inr after)) = inl (omega (arith, first.line_is, node.line_is))
    here other kind node (inl same) =
        let places : Some node.placed ≡ Some first.placed = sym node.stands ∙ ap (slice_get (placed_nodes certificate.tableau.tableau)) same ∙ first.stands in
        let names : Some node.ancestor ≡ Some first.ancestor = sym node.named ∙ ap (slice_get certificate.closers) same ∙ first.named in
        let placed : node.placed ≡ first.placed = cc in
        let ancestor : node.ancestor ≡ first.ancestor = cc in
        let line : refusal.line ≡ other = omega (arith, first.line_is, node.line_is) in
        inr (
          line,
          first.offends.first kind (subst (λ p. OffendsAt over.clauses certificate.class p first.ancestor kind) placed (subst (λ a. OffendsAt over.clauses certificate.class node.placed a kind) ancestor node.offends)),
        )

    by : (other : ℕ) (kind : RefusalKind) → Offends over certificate other kind → (refusal.line < other) ⊎ ((refusal.line ≡ other) × (rank refusal.kind ≤ rank kind))
    by other kind (inl (is, offends)) = absurd (root_not over certificate root kind offends)
    by other kind (inr node) = here other kind node (cases_order node.index first.index)

pub refuses_size : (over : Problem) (certificate : Certificate) (refusal : Refusal) → RootPasses over certificate → AllPass over certificate (length (placed_nodes certificate.tableau.tableau)) → DiffersInSize certificate refusal
    → IsRefused over certificate refusal.line refusal.kind
refuses_size over certificate refusal root pass differs = inr (record {
  sound = none;
  header = differs.line_is;
  differs = differs.differs;
  kind_is = differs.kind_is;
})
  where
    none : (other : ℕ) (kind : RefusalKind) → ¬ Offends over certificate other kind
    none other kind (inl (is, offends)) = root_not over certificate root kind offends
    none other kind (inr node) =
        passes_not over.clauses certificate.class node.placed node.ancestor
        (pass node.index node.placed node.ancestor (slice_get_within (placed_nodes certificate.tableau.tableau) node.index node.placed node.stands) node.stands node.named) kind node.offends

-- ---- the laws

accepted_sound : (over : Problem) (certificate : Certificate) (n : ℕ) → IsAccepted over certificate n → (other : ℕ) (kind : RefusalKind) → ¬ Offends over certificate other kind
accepted_sound over certificate n accepted other kind (inl (is, offends)) =
    root_not over certificate (record { start = accepted.class.start; family = accepted.class.over.0 }) kind offends
accepted_sound over certificate n accepted other kind (inr node) =
    let placed = placed_nodes certificate.tableau.tableau in
    let sound = sound_tableau over.clauses certificate.class certificate.tableau.tableau accepted.class.over.1 accepted.class.connected accepted.class.regular in
    passes_not over.clauses certificate.class node.placed node.ancestor
    (record {
      sound = All-stands (IsSound over.clauses certificate.class) placed node.index node.placed sound node.stands;
      closed = zip_at (λ p ancestor. IsClosedAsNamed p.above p.node ancestor) placed certificate.closers node.index node.placed node.ancestor accepted.closers node.stands node.named;
    }) kind node.offends

one_verdict : (over : Problem) (certificate : Certificate) (n line : ℕ) (kind : RefusalKind) → IsAccepted over certificate n → ¬ IsRefused over certificate line kind
one_verdict over certificate n line kind accepted (inl first) = accepted_sound over certificate n accepted line kind first.offends
one_verdict over certificate n line kind accepted (inr differs) = differs.differs (accepted.header ∙ sym accepted.its_size)

rank_is : (a b : RefusalKind) → rank a ≡ rank b → a ≡ b
rank_is NotStart NotStart h = refl
rank_is NotInstance NotInstance h = refl
rank_is NotComplementary NotComplementary h = refl
rank_is NotConnected NotConnected h = refl
rank_is NotRegular NotRegular h = refl
rank_is DepthDiffers DepthDiffers h = refl
rank_is SizeDiffers SizeDiffers h = refl
rank_is a b h = absurd (omega arith)

one_first : (line other : ℕ) (kind other_kind : RefusalKind) → (line < other) ⊎ ((line ≡ other) × (rank kind ≤ rank other_kind)) → (other < line) ⊎ ((other ≡ line) × (rank other_kind ≤ rank kind))
    → (line ≡ other) × (kind ≡ other_kind)
one_first line other kind other_kind (inl lt) (inl gt) = absurd (omega arith)
one_first line other kind other_kind (inl lt) (inr (same, le)) = absurd (omega arith)
one_first line other kind other_kind (inr (same, le)) (inl gt) = absurd (omega arith)
one_first line other kind other_kind (inr (same, le)) (inr (back, ge)) = (same, rank_is kind other_kind (omega arith))

one_refusal : (over : Problem) (certificate : Certificate) (line other : ℕ) (kind other_kind : RefusalKind) → IsRefused over certificate line kind → IsRefused over certificate other other_kind
    → (line ≡ other) × (kind ≡ other_kind)
one_refusal over certificate line other kind other_kind (inl first) (inl second) =
    one_first line other kind other_kind (first.first other other_kind second.offends) (second.first line kind first.offends)
one_refusal over certificate line other kind other_kind (inl first) (inr differs) = absurd (differs.sound line kind first.offends)
one_refusal over certificate line other kind other_kind (inr differs) (inl second) = absurd (differs.sound other other_kind second.offends)
one_refusal over certificate line other kind other_kind (inr differs) (inr others) = (differs.header ∙ sym others.header, differs.kind_is ∙ sym others.kind_is)

pub determined : VerdictsAreDetermined
determined = record { one_verdict = one_verdict; one_refusal = one_refusal }
