-- Bytes have one problem at most, and one first offence.
use Rattle.std.proofs.Common.{arith, ◌≡◌, ◌<◌, ◌≤◌, ◌⊎◌, inl, inr, ℕ, length, Bool, true, false, List, [], ◌∷◌, ◌++◌, sym, ap, ap₂, subst, ◌∙◌, refl}
use Rattle.std.specs.Prelude.{Some, map, if◌then◌else◌, ◌==◌, not}
use Rattle.std.specs.List.{list_any, flat_map}
use Rattle.pm_logic.specs.Problem as logic
use Rattle.pm_logic.specs.Term as tree
use Rattle.pm_logic.specs.Lists.{Gathers}
use Rattle.pm_logic.proofs.Gathering.{Gathers-same}
use Rattle.pm_scan.specs.declared.offence.CnfKind.{CnfKind}
use Rattle.pm_scan.specs.declared.offence.CnfKind.TheVariants.{BadByte, BadToken, UnclosedComment, UnclosedQuote, Unexpected, EndInItem, NotCnf, Include, Equality, Number, DistinctObject, TooManyClauses, TooManyLiterals, TooManyVariables, ArityTooLarge, TooDeep}
use Rattle.pm_scan.specs.Lexemes.{Token, tokens_in}
use Rattle.pm_cnf.specs.Grammar.{Term, variable, application, Arguments, no_arguments, more_arguments, Literal, Item, AreItems, file_places, tokens_of}
use Rattle.pm_cnf.specs.Offences.{rank}
use Rattle.pm_cnf.specs.Meaning.{Pairwise, holds_always, is_kept, kept_items, Kept, kept_among, kept_literals, function_of, predicate_of, variables_among, literal_symbols, item_variables, with_texts, IsTreeOf, AreTreesOf, IsLiteralOf, label_of, IsClauseOf, clause_terms, IsProblemOf}
use Rattle.pm_cnf.specs.Inside.Machine.{start}
use Rattle.pm_cnf.specs.Inside.Draft.{written, draft_after, nothing_drafted}
use Rattle.pm_cnf.specs.Laws.{ProblemIsDetermined, OffenceIsDetermined}
use Rattle.pm_scan.proofs.Chains.{same_place}
use Rattle.pm_cnf.proofs.meaning.Nodes.{SameItem, items_are}
use Rattle.pm_cnf.proofs.meaning.GatheredOnce.{HoldsOnce, gathers_once, with_texts_once}
use Rattle.pm_cnf.proofs.parsed.Drafts.{file_drafts}

-- ---- the first offence

abbrev kind_of : ℕ → CnfKind
kind_of n =
    if n == 0 then BadByte else if n == 1 then UnclosedComment else if n == 2 then BadToken else if n == 3 then UnclosedQuote else
    if n == 4 then EndInItem else if n == 5 then Include else if n == 6 then NotCnf else if n == 7 then Number else
    if n == 8 then DistinctObject else if n == 9 then Equality else if n == 10 then Unexpected else if n == 11 then TooManyClauses else
    if n == 12 then TooManyLiterals else if n == 13 then TooManyVariables else if n == 14 then ArityTooLarge else TooDeep

kind_of-rank : (kind : CnfKind) → kind_of (rank kind) ≡ kind
kind_of-rank BadByte = refl
kind_of-rank UnclosedComment = refl
kind_of-rank BadToken = refl
kind_of-rank UnclosedQuote = refl
kind_of-rank EndInItem = refl
kind_of-rank Include = refl
kind_of-rank NotCnf = refl
kind_of-rank Number = refl
kind_of-rank DistinctObject = refl
kind_of-rank Equality = refl
kind_of-rank Unexpected = refl
kind_of-rank TooManyClauses = refl
kind_of-rank TooManyLiterals = refl
kind_of-rank TooManyVariables = refl
kind_of-rank ArityTooLarge = refl
kind_of-rank TooDeep = refl

rank_same : (kind other : CnfKind) → rank kind ≡ rank other → kind ≡ other
rank_same kind other is = sym (kind_of-rank kind) ∙ ap kind_of is ∙ kind_of-rank other

-- each of two first offences is no later than the other
firsts_same : (rest others : List ℕ) (kind other : CnfKind)
    → (length others < length rest) ⊎ ((others ≡ rest) × (rank kind ≤ rank other)) → (length rest < length others) ⊎ ((rest ≡ others) × (rank other ≤ rank kind))
    → (rest ≡ others) × (kind ≡ other)
firsts_same rest others kind other (inl h) (inl k) = absurd (omega (arith, h, k))
firsts_same rest others kind other (inl h) (inr k) = absurd (omega (arith, h, ap length k.0))
firsts_same rest others kind other (inr h) (inl k) = absurd (omega (arith, k, ap length h.0))
firsts_same rest others kind other (inr h) (inr k) = (k.0, rank_same kind other (omega (arith, h.1, k.1)))

pub offence_is_determined : OffenceIsDetermined
offence_is_determined limits bytes rest others kind other a b = firsts_same rest others kind other (a.first others other b.is) (b.first rest kind a.is)

-- ---- items

-- The tokens determine what is kept of the items.
pub same_tokens : (xs ys : List Item) → AreItems xs → AreItems ys → tokens_of (file_places 0 xs) ≡ tokens_of (file_places 0 ys) → Pairwise SameItem xs ys
same_tokens xs ys are others same =
    let first : (draft_after (Some start) nothing_drafted (tokens_of (file_places 0 xs))).items ≡ map written xs = file_drafts xs are 0 [] nothing_drafted.name [] true in
    let second : (draft_after (Some start) nothing_drafted (tokens_of (file_places 0 ys))).items ≡ map written ys = file_drafts ys others 0 [] nothing_drafted.name [] true in
    items_are xs ys (sym first ∙ ap (λ (ts : List Token). (draft_after (Some start) nothing_drafted ts).items) same ∙ second)

kept_pair : (x y : Item) (xs ys : List Item) → SameItem x y → (b c : Bool) → is_kept x ≡ b → is_kept y ≡ c → Pairwise SameItem (kept_items xs) (kept_items ys) → Pairwise SameItem (kept_items (x ∷ xs)) (kept_items (y ∷ ys))
kept_pair x y xs ys same true true here there more = rw (here, there) (same, more)
kept_pair x y xs ys same false false here there more = rw (here, there) more
kept_pair x y xs ys same true false here there more = absurd (let e : is_kept x ≡ is_kept y = ap (λ (ls : List Literal). not (list_any (λ literal. holds_always literal.positive literal.atom) ls)) same.literals in cc)
kept_pair x y xs ys same false true here there more = absurd (let e : is_kept x ≡ is_kept y = ap (λ (ls : List Literal). not (list_any (λ literal. holds_always literal.positive literal.atom) ls)) same.literals in cc)

pub same_kept : (xs ys : List Item) → Pairwise SameItem xs ys → Pairwise SameItem (kept_items xs) (kept_items ys)
same_kept [] [] same = tt
same_kept [] (y ∷ ys) same = absurd same
same_kept (x ∷ xs) [] same = absurd same
same_kept (x ∷ xs) (y ∷ ys) same = kept_pair x y xs ys same.0 (is_kept x) (is_kept y) refl refl (same_kept xs ys same.1)

symbols_same : (xs ys : List Item) → Pairwise SameItem xs ys → flat_map (λ item. flat_map literal_symbols (kept_literals item)) xs ≡ flat_map (λ item. flat_map literal_symbols (kept_literals item)) ys
symbols_same [] [] same = refl
symbols_same [] (y ∷ ys) same = absurd same
symbols_same (x ∷ xs) [] same = absurd same
symbols_same (x ∷ xs) (y ∷ ys) same =
    ap₂ (λ (ss us : List logic.Symbol). ss ++ us) (ap (λ (ls : List Literal). flat_map literal_symbols (kept_among ls)) same.0.literals) (symbols_same xs ys same.1)

-- ---- trees

module _ (symbols : List logic.Symbol) (variables : List (List ℕ)) (symbols_once : HoldsOnce symbols) (variables_once : HoldsOnce variables) where
  mutual
    tree_same : (t : Term) (a b : tree.Term) → IsTreeOf symbols variables t a → IsTreeOf symbols variables t b → a ≡ b
    tree_same (variable text) (tree.var m) (tree.var n) at there = ap tree.var (variables_once m n text at there)
    tree_same (variable text) (tree.var m) (tree.app g us) at there = absurd there
    tree_same (variable text) (tree.app f ts) b at there = absurd at
    tree_same (application w args) (tree.var m) b at there = absurd at
    tree_same (application w args) (tree.app f ts) (tree.var n) at there = absurd there
    tree_same (application w args) (tree.app f ts) (tree.app g us) at there = ap₂ tree.app (symbols_once f g (function_of w args) at.0 there.0) (trees_same args ts us at.1 there.1)

    trees_same : (args : Arguments) (ts us : tree.Terms) → AreTreesOf symbols variables args ts → AreTreesOf symbols variables args us → ts ≡ us
    trees_same no_arguments tree.no_terms tree.no_terms at there = refl
    trees_same no_arguments tree.no_terms (tree.more_terms u us) at there = absurd there
    trees_same no_arguments (tree.more_terms t ts) us at there = absurd at
    trees_same (more_arguments x xs) tree.no_terms us at there = absurd at
    trees_same (more_arguments x xs) (tree.more_terms t ts) tree.no_terms at there = absurd there
    trees_same (more_arguments x xs) (tree.more_terms t ts) (tree.more_terms u us) at there = ap₂ tree.more_terms (tree_same x t u at.0 there.0) (trees_same xs ts us at.1 there.1)

  literal_same : (w : Kept) (a b : logic.Literal) → IsLiteralOf symbols variables w a → IsLiteralOf symbols variables w b → a ≡ b
  literal_same w a b at there =
      let args : tree.list_of (tree.as_terms a.args) ≡ tree.list_of (tree.as_terms b.args) = ap tree.list_of (trees_same w.args (tree.as_terms a.args) (tree.as_terms b.args) at.terms there.terms) in
      literal_parts a b (at.sign ∙ sym there.sign) (symbols_once a.predicate b.predicate (predicate_of w.predicate w.args) at.symbol there.symbol) (sym (list_as a.args) ∙ args ∙ list_as b.args)
    where
      list_as : (ts : List tree.Term) → tree.list_of (tree.as_terms ts) ≡ ts
      list_as [] = refl
      list_as (t ∷ ts) = ap (λ (us : List tree.Term). t ∷ us) (list_as ts)

      literal_parts : (x y : logic.Literal) → x.positive ≡ y.positive → x.predicate ≡ y.predicate → x.args ≡ y.args → x ≡ y
      literal_parts x y sign symbol args =
          ap₂ (λ (p : Bool) (n : ℕ). record { positive = p; predicate = n; args = x.args }) sign symbol ∙ ap (λ (ts : List tree.Term). record { positive = y.positive; predicate = y.predicate; args = ts }) args

  literals_same : (ws : List Kept) (xs ys : List logic.Literal) → Pairwise (IsLiteralOf symbols variables) ws xs → Pairwise (IsLiteralOf symbols variables) ws ys → xs ≡ ys
  literals_same [] [] [] at there = refl
  literals_same [] [] (y ∷ ys) at there = absurd there
  literals_same [] (x ∷ xs) ys at there = absurd at
  literals_same (w ∷ ws) [] ys at there = absurd at
  literals_same (w ∷ ws) (x ∷ xs) [] at there = absurd there
  literals_same (w ∷ ws) (x ∷ xs) (y ∷ ys) at there = ap₂ (λ (z : logic.Literal) (zs : List logic.Literal). z ∷ zs) (literal_same w x y at.0 there.0) (literals_same ws xs ys at.1 there.1)

-- ---- clauses

-- the variables of an item, by its literals
abbrev literals_variables : List Literal → List (List ℕ)
literals_variables literals = with_texts [] (flat_map (λ literal. variables_among literal.args) (kept_among literals))

clause_parts : (c d : logic.Clause) → c.name ≡ d.name → c.role ≡ d.role → c.vars ≡ d.vars → c.literals ≡ d.literals → c ≡ d
clause_parts c d name role vars literals =
    ap₂ (λ (n : logic.Label) (r : List ℕ). record { name = n; role = r; vars = c.vars; literals = c.literals }) name role
    ∙ ap₂ (λ (v : ℕ) (ls : List logic.Literal). record { name = d.name; role = d.role; vars = v; literals = ls }) vars literals

clause_same : (symbols : List logic.Symbol) → HoldsOnce symbols → (a b : Item) (c d : logic.Clause) → SameItem a b → IsClauseOf symbols a c → IsClauseOf symbols b d → c ≡ d
clause_same symbols once a b c d same at there =
    clause_parts c d
    (at.name ∙ ap label_of same.name ∙ sym there.name)
    (at.role ∙ same.role ∙ sym there.role)
    (at.vars ∙ ap (λ (ls : List Literal). length (literals_variables ls)) same.literals ∙ sym there.vars)
    (literals_same symbols (item_variables a) once (with_texts_once (flat_map (λ literal. variables_among literal.args) (kept_literals a))) (kept_literals a) c.literals d.literals at.literals
    (subst (λ (ls : List Literal). Pairwise (IsLiteralOf symbols (literals_variables ls)) (kept_among ls) d.literals) (sym same.literals) there.literals))

clauses_same : (symbols : List logic.Symbol) → HoldsOnce symbols → (xs ys : List Item) (cs ds : List logic.Clause) → Pairwise SameItem xs ys → Pairwise (IsClauseOf symbols) xs cs → Pairwise (IsClauseOf symbols) ys ds
    → cs ≡ ds
clauses_same symbols once [] [] [] [] same at there = refl
clauses_same symbols once [] [] [] (d ∷ ds) same at there = absurd there
clauses_same symbols once [] [] (c ∷ cs) ds same at there = absurd at
clauses_same symbols once [] (y ∷ ys) cs ds same at there = absurd same
clauses_same symbols once (x ∷ xs) [] cs ds same at there = absurd same
clauses_same symbols once (x ∷ xs) (y ∷ ys) [] ds same at there = absurd at
clauses_same symbols once (x ∷ xs) (y ∷ ys) (c ∷ cs) [] same at there = absurd there
clauses_same symbols once (x ∷ xs) (y ∷ ys) (c ∷ cs) (d ∷ ds) same at there =
    ap₂ (λ (e : logic.Clause) (es : List logic.Clause). e ∷ es) (clause_same symbols once x y c d same.0 at.0 there.0) (clauses_same symbols once xs ys cs ds same.1 at.1 there.1)

problem_parts : (p q : logic.Problem) → p.symbols ≡ q.symbols → p.terms ≡ q.terms → p.clauses ≡ q.clauses → p ≡ q
problem_parts p q symbols terms clauses =
    ap₂ (λ (ss : List logic.Symbol) (ts : List tree.Term). record { symbols = ss; terms = ts; clauses = p.clauses }) symbols terms
    ∙ ap (λ (cs : List logic.Clause). record { symbols = q.symbols; terms = q.terms; clauses = cs }) clauses

-- Items that are kept alike have one problem at most.
pub problem_same : (xs ys : List Item) (p q : logic.Problem) → Pairwise SameItem xs ys → IsProblemOf xs p → IsProblemOf ys q → p ≡ q
problem_same xs ys p q same at there =
    let kept = same_kept xs ys same in
    let occurrences : List Item → List logic.Symbol = λ items. flat_map (λ item. flat_map literal_symbols (kept_literals item)) items in
    let symbols : p.symbols ≡ q.symbols =
    Gathers-same (occurrences (kept_items xs)) [] p.symbols q.symbols at.symbols (subst (λ (ss : List logic.Symbol). Gathers [] ss q.symbols) (sym (symbols_same (kept_items xs) (kept_items ys) kept)) there.symbols) in
    let clauses : p.clauses ≡ q.clauses =
    clauses_same p.symbols (gathers_once (occurrences (kept_items xs)) p.symbols at.symbols) (kept_items xs) (kept_items ys) p.clauses q.clauses kept at.clauses
    (subst (λ (ss : List logic.Symbol). Pairwise (IsClauseOf ss) (kept_items ys) q.clauses) (sym symbols) there.clauses) in
    let terms : p.terms ≡ q.terms =
    Gathers-same (flat_map clause_terms p.clauses) [] p.terms q.terms at.terms (subst (λ (cs : List logic.Clause). Gathers [] (flat_map clause_terms cs) q.terms) (sym clauses) there.terms) in
    problem_parts p q symbols terms clauses

pub problem_is_determined : ProblemIsDetermined
problem_is_determined limits bytes problem other a b =
    let lexemes : b.text.lexemes ≡ a.text.lexemes = (same_place a.text.lexemes b.text.lexemes bytes [] [] a.text.leads b.text.leads refl).0 in
    problem_same a.items b.items problem other (same_tokens a.items b.items a.text.are b.text.are (a.text.file ∙ ap tokens_in (sym lexemes) ∙ sym b.text.file)) a.means b.means
