use Rattle.std.proofs.Common.{◌≡◌, [], ◌++◌, ◌∙◌, List, length, map, refl, sym, ap, subst}
use Rattle.std.specs.List.{All, AllZip}
use Rattle.std.proofs.lemmas.List.{length-map}
use Rattle.pm_logic.specs.Problem.{Symbol}
use Rattle.pm_logic.specs.Tableau.{preorder}
use Rattle.pm_logic.specs.Term.{Term, tree_at}
use Rattle.pm_logic.specs.View.{entry_of}
use Rattle.pm_certread.specs.Lines.{Line, NodeLine, node_line, text_of}
use Rattle.pm_cert.specs.Ancestors.{placed_nodes}
use Rattle.pm_cert.specs.Text.{SearchReport, report_of, IsTermLine, IsLineOf}
use Rattle.pm_cert.specs.Inside.Lines.{IsWritableTerm}
use Rattle.pm_cert.specs.Inside.Nodes.{IsWritableNode}
use Rattle.pm_cert.proofs.TermLemmas.{follow-closed}
use Rattle.pm_cert.proofs.NodeLemmas.{writable_nodes}
use Rattle.pm_certread.specs.Forms.{IsNumber}
use Rattle.pm_cert.proofs.DeterminedLemmas.{listed_same}
use Rattle.pm_cert.proofs.DocumentLemmas.{listed-follow, listed-over, listed-args, literal_predicates, writable-terms, header_told, document_told}
use Rattle.pm_cert.proofs.document.write_cert.Goals as goal

pub push_terms-requires-clause-writable : goal.push_terms-requires-clause-writable
push_terms-requires-clause-writable c =
    let tableau = c.args.tableau.now.tableau in
    let keys = c.in_ok-list.list.keys in
    let trees : List Term = map (tree_at c.args.tableau.now.terms) keys in
    let listed = c.in_ok-list.ensures.listed in
    let all : All (IsWritableTerm c.args.problem.now.symbols trees) trees =
    writable-terms c.args.problem.now.symbols trees c.requires.symbols.vars trees (listed-over tableau trees listed c.args.problem.now.symbols c.requires.symbols)
    (follow-closed trees [] (listed-follow tableau trees listed)) in
    subst (λ (ts : List Term). All (IsWritableTerm c.symbols-symbols.result.now (map (tree_at ts) keys)) (map (tree_at ts) keys)) (sym c.terms.ensures)
    (subst (λ (ss : List Symbol). All (IsWritableTerm ss trees) trees) (sym c.symbols-symbols.ensures) all)

pub push_nodes-requires-clause-writable : goal.push_nodes-requires-clause-writable
push_nodes-requires-clause-writable c =
    let tableau = c.args.tableau.now.tableau in
    let trees : List Term = map (tree_at c.args.tableau.now.terms) c.in_ok-list.list.keys in
    let args = listed-args tableau trees c.in_ok-list.ensures.listed in
    let predicates = literal_predicates c.args.problem.now.symbols tableau c.requires.symbols in
    subst (λ (ss : List Symbol). All (IsWritableNode ss trees) (placed_nodes tableau)) (sym c.symbols-symbols.ensures)
    (writable_nodes c.args.problem.now.symbols trees tableau c.requires.closed (λ k d lt. (predicates k d lt, args k d lt)))

pub returns-clause-document : goal.returns-clause-document
returns-clause-document c =
    let tableau = c.args.tableau.now.tableau in
    let symbols = c.args.problem.now.symbols in
    let keys = c.in_ok-list.list.keys in
    let trees : List Term = map (tree_at c.args.tableau.now.terms) keys in
    let report : SearchReport = report_of c.args.class c.args.start c.args.bound c.args.works.now c.args.last in
    let term_part : (lines : List Line) × AllZip (IsTermLine symbols trees) trees lines × (c.push_terms.new.text.items ≡ c.push_header.new.text.items ++ text_of lines) =
    subst (λ (ss : List Symbol). (lines : List Line) × AllZip (IsTermLine ss trees) trees lines × (c.push_terms.new.text.items ≡ c.push_header.new.text.items ++ text_of lines)) c.symbols-symbols.ensures
    (subst (λ (ts : List Term). (lines : List Line) × AllZip (IsTermLine c.symbols-symbols.result.now (map (tree_at ts) keys)) (map (tree_at ts) keys) lines × (c.push_terms.new.text.items ≡ c.push_header.new.text.items ++ text_of lines))
    c.terms.ensures c.in_ok-push_terms.ensures) in
    let node_part : (nodes : List NodeLine) × AllZip (IsLineOf symbols trees) (placed_nodes tableau) nodes × (c.push_nodes.new.text.items ≡ c.push_root.new.text.items ++ text_of (map node_line nodes)) =
    subst (λ (ss : List Symbol). (nodes : List NodeLine) × AllZip (IsLineOf ss trees) (placed_nodes tableau) nodes × (c.push_nodes.new.text.items ≡ c.push_root.new.text.items ++ text_of (map node_line nodes))) c.symbols-symbols.ensures
    c.in_ok-push_nodes.ensures in
    let count : length keys ≡ length trees = sym (length-map keys (tree_at c.args.tableau.now.terms)) in
    let entries : length c.nodes.result.now ≡ length (preorder tableau) = sym (length-map c.nodes.result.now (entry_of c.args.tableau.now.terms)) ∙ ap length c.nodes.ensures.nodes in
    record {
      terms = trees;
      listed = c.in_ok-list.ensures.listed;
      term_lines = term_part.0;
      lines_of_terms = term_part.1;
      nodes = node_part.0;
      lines_of_nodes = node_part.1;
      is =
          document_told report tableau trees term_part.0 node_part.0 _ c.root.result c.new-text.result.items c.push_levels.new.text.items c.push_header.new.text.items c.push_terms.new.text.items c.push_root.new.text.items c.push_nodes.new.text.items c.extend_from_slice.new.self.items
          (header_told report tableau trees _ refl refl refl c.size.ensures (c.len.ensures.len ∙ count) entries) c.root.ensures c.new-text.ensures.items
          c.in_ok-push_levels.ensures.text c.in_ok-push_header.ensures.text term_part.2 c.in_ok-push_root.ensures node_part.2 c.in_ok-extend_from_slice.ensures.items;
    }

pub returns-clause-numbers : goal.returns-clause-numbers
returns-clause-numbers c =
    let terms = c.args.tableau.now.terms in
    let keys = c.in_ok-list.list.keys in
    let entries : length c.nodes.result.now ≡ length (preorder c.args.tableau.now.tableau) = sym (length-map c.nodes.result.now (entry_of terms)) ∙ ap length c.nodes.ensures.nodes in
    let count : c.len.result ≡ length (map (tree_at terms) keys) = c.len.ensures.len ∙ sym (length-map keys (tree_at terms)) in
    record {
      levels = c.in_ok-push_levels.ensures.levels;
      works = c.in_ok-push_levels.ensures.works;
      last = c.in_ok-push_levels.ensures.last;
      size = subst IsNumber c.size.ensures c.in_ok-push_header.ensures.size;
      terms = λ others listed.
          subst (λ (ts : List Term). IsNumber (length ts)) (listed_same c.args.tableau.now.tableau (map (tree_at terms) keys) others c.in_ok-list.ensures.listed listed) (subst IsNumber count c.in_ok-push_header.ensures.terms);
      nodes = subst IsNumber entries c.in_ok-push_header.ensures.nodes;
    }
