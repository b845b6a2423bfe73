-- A certificate that was read has fewer lines than its document has bytes.
use Rattle.std.proofs.Common.{◌≡◌, ◌≤◌, inl, inr, ℕ, suc, ◌+◌, ◌==◌, Bool, true, false, List, [], ◌∷◌, length, sym, ap, subst, arith}
use Rattle.std.specs.Prelude.{if◌then◌else◌}
use Rattle.std.specs.List.{onto_first}
use Rattle.std.proofs.lemmas.List.{length_push}
use Rattle.pm_logic.specs.Problem.{Problem}
use Rattle.pm_logic.specs.Tableau.{preorder}
use Rattle.pm_certread.specs.declared.error.CertKind.{CertKind}
use Rattle.pm_certread.specs.Lines.{cut_lines}
use Rattle.pm_certread.specs.Certificate.{Certificate}
use Rattle.pm_certread.specs.Reading.{NodeLines, entry_of, Leads, Stage, opening, levels, heading, terms, nodes, accepted, refused, ReadsFrom, Ends}
use Rattle.pm_certread.proofs.OverLemmas.{over_problem}
use Rattle.pm_check.specs.Verdicts.{WasRead}
use Rattle.pm_check.specs.Inside.Ready.{IsCheckable}

-- a document has so many lines at most
onto_more : (byte : ℕ) (lines : List (List ℕ)) → length (onto_first byte lines) ≤ length lines + 1
onto_more byte [] = omega arith
onto_more byte (line ∷ lines) = omega arith

few_lines : (bytes : List ℕ) → length (cut_lines bytes) ≤ length bytes
few_lines [] = omega arith
few_lines (byte ∷ bytes) = by (byte == 10) (few_lines bytes)
  where
    by : (t : Bool) → length (cut_lines bytes) ≤ length bytes → length (if t then (10 ∷ []) ∷ cut_lines bytes else onto_first byte (cut_lines bytes)) ≤ suc (length bytes)
    by true few = omega arith
    by false few = omega (arith, onto_more byte (cut_lines bytes))

-- what a stage says of the number of all lines
abbrev Counts : ℕ → Stage → Type 0
Counts total opening = Unit {0}
Counts total (levels level) = Unit {0}
Counts total heading = Unit {0}
Counts total (terms head given) = head.line + head.header.terms + head.header.nodes + 2 ≡ total
Counts total (nodes head given all) = (head.line + head.header.terms + head.header.nodes + 2 ≡ total) × (length all.entries ≤ head.header.nodes)

leads_count : (over : Problem) (before after total : ℕ) (stage next : Stage) (raw : List ℕ) → total ≡ before + 1 + after → Leads over before after stage raw next → Counts total stage → Counts total next
leads_count over before after total opening next raw all leads counts = subst (Counts total) (sym leads.1) tt
leads_count over before after total (levels level) next raw all leads counts = elim leads.1 [
  | inl more ↦ subst (Counts total) (sym more.1) tt
  | inr last ↦ subst (Counts total) (sym last.1) tt
]
leads_count over before after total heading next raw all leads counts =
    subst (Counts total) (sym leads.3) (let after_is : after ≡ leads.0.terms + leads.0.nodes + 2 = leads.2 in omega (arith, all, after_is))
leads_count over before after total (terms head given) next raw all (inl (lt, new, gives, is)) counts = subst (Counts total) (sym is) counts
leads_count over before after total (terms head given) next raw all (inr (le, clause, root, within, is)) counts = subst (Counts total) (sym is) (counts, omega arith)
leads_count over before after total (nodes head given old) next raw all (lt, node, predicate, new, is, gives, next_is) counts =
    subst (Counts total) (sym next_is) (counts.0, omega (arith, ap (λ (n : NodeLines). length n.entries) gives.is, length_push old.entries (entry_of given.each node predicate)))

ends_count : (total : ℕ) (stage : Stage) (raw : List ℕ) (certificate : Certificate) → Counts total stage → Ends stage raw certificate → certificate.root_line + 1 + length (preorder certificate.tableau.tableau) ≤ total
ends_count total opening raw certificate counts ends = absurd ends
ends_count total (levels level) raw certificate counts ends = absurd ends
ends_count total heading raw certificate counts ends = absurd ends
ends_count total (terms head given) raw certificate counts ends = absurd ends
ends_count total (nodes head given all) raw certificate counts ends =
    let is = ends.2 in
    omega (arith, is.root_line, ap length is.nodes, counts.0, counts.1)

not_accepted : (line : ℕ) (kind : CertKind) (certificate : Certificate) → accepted certificate ≡ refused line kind → ⊥
not_accepted line kind certificate e = absurd cc

reads_count : (over : Problem) (total before : ℕ) (raws : List (List ℕ)) (stage : Stage) (certificate : Certificate) → total ≡ before + length raws → Counts total stage → ReadsFrom over stage before raws (accepted certificate)
    → certificate.root_line + 1 + length (preorder certificate.tableau.tableau) ≤ total
reads_count over total before [] stage certificate all counts h = absurd (not_accepted _ _ certificate h)
reads_count over total before (raw ∷ raws) stage certificate all counts (inl (next, leads, later)) =
    reads_count over total (before + 1) raws next certificate (omega arith) (leads_count over before (length raws) total stage next raw (omega arith) leads counts) later
reads_count over total before (raw ∷ raws) stage certificate all counts (inr (inl (kind, bad, is))) = absurd (not_accepted _ _ certificate is)
reads_count over total before (raw ∷ raws) stage certificate all counts (inr (inr (other, ends, is))) =
    let same : other ≡ certificate = sym cc in
    subst (λ (c : Certificate). c.root_line + 1 + length (preorder c.tableau.tableau) ≤ total) same (ends_count total stage raw other counts ends)

pub checkable : (over : Problem) (certificate : Certificate) → WasRead over certificate → IsCheckable over certificate
checkable over certificate read = record {
  over_problem = over_problem over read.bytes certificate read.reads;
  lines =
      let few : certificate.root_line + 1 + length (preorder certificate.tableau.tableau) ≤ length (cut_lines read.bytes) =
      reads_count over (length (cut_lines read.bytes)) 0 (cut_lines read.bytes) opening certificate (omega arith) tt read.reads in
      omega (arith, few, few_lines read.bytes, read.short);
}
