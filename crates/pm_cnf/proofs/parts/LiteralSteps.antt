-- What a loop over the literals of nodes keeps.
use Rattle.std.proofs.Common.{Bool, ◌≡◌, ℕ, ◌+◌, ◌<◌, ◌≤◌, List, [], ◌∷◌, ◌++◌, length, take, drop, Some, refl, sym, ap, subst, ◌∙◌, append_assoc, arith, slice_get}
use Rattle.std.specs.Prelude.{All, map}
use Rattle.std.specs.List.{flat_map, prefix_len}
use Rattle.std.proofs.lemmas.List.{append-nil, length-append}
use Rattle.std.proofs.lemmas.Grind.{flat_map-append}
use Rattle.std.proofs.lemmas.List.Elements.{All-nil, All-push}
use Rattle.pm_logic.specs.declared.symbols.Kind.TheVariants.{Predicate}
use Rattle.pm_logic.specs.declared.problem.Literal.{Literal}
use Rattle.pm_logic.specs.Problem as logic
use Rattle.pm_logic.specs.Problem.{Numbers}
use Rattle.pm_logic.specs.Term.{as_terms, tree_at}
use Rattle.pm_logic.specs.Table.{variable_count}
use Rattle.pm_logic.specs.View.{literal_of, HasRows}
use Rattle.pm_logic.proofs.Gathering.{slice_get-extends, Gathers-one}
use Rattle.pm_cnf.specs.Grammar as grammar
use Rattle.pm_cnf.specs.Grammar.{Word, word_text, Arguments, Atom}
use Rattle.pm_cnf.specs.Inside.Draft as draft
use Rattle.pm_cnf.specs.Inside.Draft.{Node, arguments_nodes, atom_nodes, literal_nodes}
use Rattle.pm_cnf.specs.Meaning.{Pairwise, kept_from, kept_among, AreTreesOf, IsLiteralOf, literal_terms}
use Rattle.pm_cnf.specs.Inside.Parts.{is_argument, IsArgument, terms_among, Tables, Grows, AreNumbered}
use Rattle.pm_cnf.proofs.parts.Tabling.{Grows-none, Grows-append, symbols-extend, terms-extend, symbols-count}
use Rattle.pm_cnf.proofs.parts.Literals.{cut_literal, kept_literal, constant_literal, no_argument_first, literal_more, HasRows-extends}

-- of these literals some were read, and the rest of the nodes are of the others
pub record ReadSoFar (start : Tables) (rest : List Node) (now : Tables) (literals : List Literal) (given : List grammar.Literal) : Type 0 where
  pub done : List grammar.Literal
  pub todo : List grammar.Literal
  pub is : given ≡ done ++ todo
  pub rest-is : rest ≡ flat_map literal_nodes todo
  pub numbered : AreNumbered start (flat_map literal_nodes done) now (kept_among done) (map (literal_of now.terms) literals)

pub record LiteralsSoFar (start : Tables) (all rest : List Node) (now : Tables) (literals : List Literal) : Type 0 where
  pub read : (given : List grammar.Literal) → all ≡ flat_map literal_nodes given → ReadSoFar start rest now literals given
  pub rows : All (HasRows (length now.terms)) literals

pub literals_none : (start : Tables) (all : List Node) → length start.texts ≤ variable_count start.terms → LiteralsSoFar start all all start []
literals_none start all known = record {
  read = λ given is. record { done = []; todo = given; is = refl; rest-is = is; numbered = record { grows = Grows-none start known; pairs = tt } };
  rows = All-nil (HasRows (length start.terms));
}

-- one literal more, in general
step_more : (start now new : Tables) (head : Node) (after : List Node) (literals added : List Literal) (given : List grammar.Literal)
    → (r : ReadSoFar start (head ∷ after) now literals given)
    → All (HasRows (length now.terms)) literals
    → ((literal : grammar.Literal) → head ∷ take (prefix_len is_argument after) after ≡ literal_nodes literal
    → Grows now (literal_nodes literal) (flat_map literal_terms (map (literal_of new.terms) added)) new
    × Pairwise (IsLiteralOf new.symbols new.texts) (kept_from literal.positive literal.atom []) (map (literal_of new.terms) added))
    → ReadSoFar start (drop (prefix_len is_argument after) after) new (literals ++ added) given
step_more start now new head after literals added given r rows step =
    let cut = cut_literal head after r.todo r.rest-is in
    let does = step cut.literal cut.first in
    record {
      done = r.done ++ cut.literal ∷ [];
      todo = cut.others;
      is = r.is ∙ ap (λ ls. r.done ++ ls) cut.is ∙ sym (append_assoc r.done (cut.literal ∷ []) cut.others);
      rest-is = cut.second;
      numbered = literal_more start now new r.done cut.literal literals added (literal_nodes cut.literal) refl rows does.0 does.1 r.numbered;
    }

-- the nodes of the next literal's arguments are of arguments
pub next_arguments : (start now : Tables) (all after : List Node) (literals : List Literal) (positive : Bool) (w : Word) (n : ℕ) → ((given : List grammar.Literal) × (all ≡ flat_map literal_nodes given))
    → LiteralsSoFar start all (draft.predicate_node positive w n ∷ after) now literals → (args : Arguments) × (take (prefix_len is_argument after) after ≡ arguments_nodes args)
next_arguments start now all after literals positive w n whole so_far =
    let r = so_far.read whole.0 whole.1 in
    let cut = cut_literal (draft.predicate_node positive w n) after r.todo r.rest-is in
    let k = kept_literal cut.literal positive w n (take (prefix_len is_argument after) after) cut.first in
    (k.args, k.nodes-are)

pub texts_so_far : (start now : Tables) (all rest : List Node) (literals : List Literal) → ((given : List grammar.Literal) × (all ≡ flat_map literal_nodes given)) → LiteralsSoFar start all rest now literals → length now.texts ≤ variable_count now.terms
texts_so_far start now all rest literals whole so_far = (so_far.read whole.0 whole.1).numbered.grows.known

pub room_so_far : (start now : Tables) (all rest : List Node) (literals : List Literal) → ((given : List grammar.Literal) × (all ≡ flat_map literal_nodes given)) → LiteralsSoFar start all rest now literals
    → length now.symbols + length rest ≤ length start.symbols + length all
room_so_far start now all rest literals whole so_far =
    let r = so_far.read whole.0 whole.1 in
    let cut : all ≡ flat_map literal_nodes r.done ++ rest = whole.1 ∙ ap (flat_map literal_nodes) r.is ∙ flat_map-append literal_nodes r.done r.todo ∙ ap (λ ns. flat_map literal_nodes r.done ++ ns) (sym r.rest-is) in
    omega (arith, symbols-count start now (flat_map literal_nodes r.done) (flat_map literal_terms (map (literal_of now.terms) literals)) r.numbered.grows, ap length cut, length-append (flat_map literal_nodes r.done) rest)

-- a literal that is kept
pub literals_kept : (start now mid new : Tables) (all after : List Node) (literals more : List Literal) (positive : Bool) (w : Word) (n f : ℕ) (literal : Literal)
    → mid ≡ record { symbols = mid.symbols; terms = now.terms; texts = now.texts } → Numbers now.symbols mid.symbols (record { text = word_text w; arity = n; kind = Predicate }) f
    → literal.positive ≡ positive → literal.predicate ≡ f → more ≡ literals ++ literal ∷ []
    → Grows mid (take (prefix_len is_argument after) after) (terms_among (map (tree_at new.terms) literal.args.items)) new
    → ((args : Arguments) → take (prefix_len is_argument after) after ≡ arguments_nodes args → AreTreesOf new.symbols new.texts args (as_terms (map (tree_at new.terms) literal.args.items)))
    → All (λ row. row < length new.terms) literal.args.items
    → ((given : List grammar.Literal) × (all ≡ flat_map literal_nodes given))
    → LiteralsSoFar start all (draft.predicate_node positive w n ∷ after) now literals → LiteralsSoFar start all (drop (prefix_len is_argument after) after) new more
literals_kept start now mid new all after literals more positive w n f literal same numbers sign symbol pushed grows terms rows whole so_far =
    let nodes = take (prefix_len is_argument after) after in
    let symbol_is : logic.Symbol = record { text = word_text w; arity = n; kind = Predicate } in
    let known = texts_so_far start now all (draft.predicate_node positive w n ∷ after) literals whole so_far in
    let first : Grows now (draft.predicate_node positive w n ∷ []) [] mid =
    subst (Grows now (draft.predicate_node positive w n ∷ []) []) (sym same) (record { symbols = Gathers-one now.symbols mid.symbols symbol_is numbers.grows; terms = refl; texts = refl; known = known }) in
    let both : Grows now (draft.predicate_node positive w n ∷ nodes) (terms_among (map (tree_at new.terms) literal.args.items)) new =
    Grows-append now mid new (draft.predicate_node positive w n ∷ []) nodes [] (terms_among (map (tree_at new.terms) literal.args.items)) first grows in
    let stands : slice_get new.symbols f ≡ Some symbol_is =
    slice_get-extends mid.symbols new.symbols (symbols-extend mid new nodes (terms_among (map (tree_at new.terms) literal.args.items)) grows) f symbol_is numbers.stands in
    let extends = terms-extend now new (draft.predicate_node positive w n ∷ nodes) (terms_among (map (tree_at new.terms) literal.args.items)) both in
    record {
      read = λ given is. subst (λ ls. ReadSoFar start (drop (prefix_len is_argument after) after) new ls given) (sym pushed) (step_more start now new (draft.predicate_node positive w n) after literals (literal ∷ []) given (so_far.read given is) so_far.rows
          (λ l first. let k = kept_literal l positive w n nodes first in (
            subst (λ ns. Grows now ns (flat_map literal_terms (map (literal_of new.terms) (literal ∷ []))) new) first
                (subst (λ ts. Grows now (draft.predicate_node positive w n ∷ nodes) ts new) (sym (append-nil (terms_among (map (tree_at new.terms) literal.args.items)))) both),
            subst (λ ks. Pairwise (IsLiteralOf new.symbols new.texts) ks (map (literal_of new.terms) (literal ∷ []))) (sym (k.kept []))
                (record { sign = sign; symbol = ap (slice_get new.symbols) symbol ∙ stands ∙ ap (λ m. Some (record { text = word_text w; arity = m; kind = Predicate })) k.count; terms = terms k.args k.nodes-are }, tt),
          )));
      rows = subst (All (HasRows (length new.terms))) (sym pushed) (All-push (HasRows (length new.terms)) literals literal (HasRows-extends now.terms new.terms extends literals so_far.rows) rows);
    }

-- a constant is left out
pub literals_constant : (start now : Tables) (all after : List Node) (literals : List Literal) (positive value : Bool)
    → LiteralsSoFar start all (draft.constant_node positive value ∷ after) now literals → LiteralsSoFar start all (drop (prefix_len is_argument after) after) now literals
literals_constant start now all after literals positive value so_far = record {
  read = λ given is. let r = so_far.read given is in
      subst (λ ls. ReadSoFar start (drop (prefix_len is_argument after) after) now ls given) (append-nil literals) (step_more start now now (draft.constant_node positive value) after literals [] given r so_far.rows
      (λ l first. let k = constant_literal l positive value (take (prefix_len is_argument after) after) first in (
        subst (λ ns. Grows now ns [] now) (ap (λ ns. draft.constant_node positive value ∷ ns) (sym k.0) ∙ first) (record { symbols = refl; terms = refl; texts = refl; known = r.numbered.grows.known }),
        subst (λ ks. Pairwise (IsLiteralOf now.symbols now.texts) ks []) (sym (k.1 [])) tt,
      )));
  rows = so_far.rows;
}

-- no literal begins with a node of a term
pub no_literal : (start now : Tables) (all after : List Node) (literals : List Literal) (node : Node) → IsArgument node → ((given : List grammar.Literal) × (all ≡ flat_map literal_nodes given)) → LiteralsSoFar start all (node ∷ after) now literals → ⊥
no_literal start now all after literals node argument whole so_far =
    let r = so_far.read whole.0 whole.1 in
    let cut = cut_literal node after r.todo r.rest-is in
    no_argument_first cut.literal node (take (prefix_len is_argument after) after) argument cut.first

-- at the end all literals were read
pub all_numbered : (start now : Tables) (all : List Node) (literals : List Literal) (given : List grammar.Literal) → all ≡ flat_map literal_nodes given → LiteralsSoFar start all [] now literals
    → AreNumbered start all now (kept_among given) (map (literal_of now.terms) literals)
all_numbered start now all literals given is so_far =
    let r = so_far.read given is in
    let over : r.todo ≡ [] = none_left r.todo r.rest-is in
    let done : given ≡ r.done = r.is ∙ ap (λ ls. r.done ++ ls) over ∙ append-nil r.done in
    subst (λ ls. AreNumbered start all now (kept_among ls) (map (literal_of now.terms) literals)) (sym done)
    (subst (λ ns. AreNumbered start ns now (kept_among r.done) (map (literal_of now.terms) literals)) (sym (is ∙ ap (flat_map literal_nodes) done)) r.numbered)
  where
    none_atom : (positive : Bool) (atom : Atom) (rest : List Node) → [] ≡ atom_nodes positive atom ++ rest → ⊥
    none_atom positive (grammar.predicate w args) rest is = cc
    none_atom positive grammar.truth rest is = cc
    none_atom positive grammar.falsity rest is = cc

    none_left : (todo : List grammar.Literal) → [] ≡ flat_map literal_nodes todo → todo ≡ []
    none_left [] is = refl
    none_left (l ∷ todo) is = absurd (none_atom l.positive l.atom (flat_map literal_nodes todo) is)
