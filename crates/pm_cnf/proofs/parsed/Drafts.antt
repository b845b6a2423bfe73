-- What is kept of a file's items while they are read: their nodes.
use Rattle.std.proofs.Common.{arith, ◌≡◌, ℕ, suc, ◌+◌, ◌-◌, Bool, true, false, List, [], ◌∷◌, ◌++◌, length, Option, Some, None, refl, sym, ap, subst, ◌∙◌, append_assoc}
use Rattle.std.specs.Prelude.{map}
use Rattle.std.specs.List.{flat_map}
use Rattle.std.proofs.lemmas.List.Concat.{flat_map-cons}
use Rattle.std.proofs.lemmas.List.{append-nil, length-append}
use Rattle.pm_scan.specs.declared.token.Mark.TheVariants.{CloseParenthesis, Comma, FullStop}
use Rattle.pm_cnf.specs.declared.parser.Expected.TheVariants as expect
use Rattle.pm_scan.specs.Lexemes.{lower, mark}
use Rattle.pm_cnf.specs.Grammar as grammar
use Rattle.pm_cnf.specs.Grammar.{Word, bare, between_quotes, Term, variable, application, Arguments, no_arguments, more_arguments, Atom, truth, falsity, Literal, Formula, in_parentheses, disjunction, Bracket, Annotations, no_more, plain, group, Name, integer, Item, nothing, an_atom, Placed, only, term_places, arguments_places, others_places, atom_places, literal_places, others_joined, formula_places, opening, closing, annotations_places, name_token, ending_places, item_places, file_places, tokens_of, AreAnnotations, MayEnd, IsName, IsItem, AreItems}
use Rattle.pm_cnf.specs.Meaning.{argument_count, literals_of}
use Rattle.pm_cnf.specs.Inside.Machine.{ParserState, step}
use Rattle.pm_cnf.specs.Inside.Draft.{Node, predicate_node, function_node, Written, term_nodes, arguments_nodes, atom_nodes, literal_nodes, written, Draft, with_arity, set_arity, draft_after}
use Rattle.pm_cnf.proofs.grammar.Forward.{in_formula, in_item, in_annotations, after_arguments, plain_step, open_step, close_step, name_step_is}

-- a draft of an item, with what was kept before
abbrev holding : List Written → Name → List ℕ → Bool → List Node → List ℕ → Draft
holding items name role positive nodes places = record { items = items; name = name; role = role; positive = positive; nodes = nodes; places = places }

-- after these places so many items are kept
abbrev Drafts : Option ParserState → Draft → List Placed → List Written → Type 0
Drafts s d ps r = (draft_after s d (tokens_of ps)).items ≡ r

set_arity_at : (before done : List Node) (head : Node) (n : ℕ) → set_arity (length before) n (before ++ head ∷ done) ≡ before ++ with_arity n head ∷ done
set_arity_at [] done head n = refl
set_arity_at (x ∷ before) done head n = ap (λ l. x ∷ l) (set_arity_at before done head n)

last_place : (before : List Node) (head : Node) → length (before ++ head ∷ []) - 1 ≡ length before
last_place before head = omega (arith, length-append before (head ∷ []))

module _ (items : List Written) (name : Name) (role : List ℕ) (r : List Written) where
  -- after a function's name, what follows a term may follow
  as_function_end_drafts : (ts : Arguments) (i a l k n m : ℕ) (counts : List ℕ) (d : Draft) (rest : List Placed)
      → Drafts (Some (in_formula expect.TermEnd i a l (m ∷ counts))) d (others_places k n ts ++ rest) r
      → Drafts (Some (in_formula expect.FunctionEnd i a l (m ∷ counts))) d (others_places k n ts ++ rest) r
  as_function_end_drafts no_arguments i a l k n m [] d rest h = h
  as_function_end_drafts no_arguments i a l k n m (c ∷ counts) d rest h = h
  as_function_end_drafts (more_arguments t ts) i a l k n m counts d rest h = h

  -- from the first argument on, by what is known of it and of the others
  list_drafts : (t : Term) (ts : Arguments) (i a l : ℕ) (counts : List ℕ) (p : Bool) (before : List Node) (head : Node) (ps : List ℕ) (rest : List Placed)
      → ((place : ℕ) → Drafts (Some (in_formula expect.TermEnd i a l (1 ∷ counts))) (holding items name role p ((before ++ head ∷ []) ++ term_nodes t) (place ∷ ps)) (others_places (suc (length counts)) 1 ts ++ rest) r
      → Drafts (Some (in_formula expect.FunctionEnd i a l (1 ∷ counts))) (holding items name role p ((before ++ head ∷ []) ++ term_nodes t) (place ∷ ps)) (others_places (suc (length counts)) 1 ts ++ rest) r
      → Drafts (Some (in_formula expect.Term i a l (0 ∷ counts))) (holding items name role p (before ++ head ∷ []) (place ∷ ps)) (term_places (suc (length counts)) 0 t ++ (others_places (suc (length counts)) 1 ts ++ rest)) r)
      → Drafts (Some (in_formula expect.TermEnd i a l (1 ∷ counts))) (holding items name role p (before ++ head ∷ term_nodes t) (length before ∷ ps)) (others_places (suc (length counts)) 1 ts ++ rest) r
      → Drafts (Some (in_formula expect.Term i a l (0 ∷ counts))) (holding items name role p (before ++ head ∷ []) ((length (before ++ head ∷ []) - 1) ∷ ps))
      ((term_places (suc (length counts)) 0 t ++ others_places (suc (length counts)) 1 ts) ++ rest) r
  list_drafts t ts i a l counts p before head ps rest first h =
      let place : ℕ = length (before ++ head ∷ []) - 1 in
      let others : Drafts (Some (in_formula expect.TermEnd i a l (1 ∷ counts))) (holding items name role p ((before ++ head ∷ []) ++ term_nodes t) (place ∷ ps)) (others_places (suc (length counts)) 1 ts ++ rest) r =
      subst (λ (ns : List Node). Drafts (Some (in_formula expect.TermEnd i a l (1 ∷ counts))) (holding items name role p ns (place ∷ ps)) (others_places (suc (length counts)) 1 ts ++ rest) r)
      (sym (append_assoc before (head ∷ []) (term_nodes t)))
      (subst (λ (k : ℕ). Drafts (Some (in_formula expect.TermEnd i a l (1 ∷ counts))) (holding items name role p (before ++ head ∷ term_nodes t) (k ∷ ps)) (others_places (suc (length counts)) 1 ts ++ rest) r)
      (sym (last_place before head)) h) in
      subst (λ (qs : List Placed). Drafts (Some (in_formula expect.Term i a l (0 ∷ counts))) (holding items name role p (before ++ head ∷ []) (place ∷ ps)) qs r)
      (sym (append_assoc (term_places (suc (length counts)) 0 t) (others_places (suc (length counts)) 1 ts) rest))
      (first place others
      (as_function_end_drafts ts i a l (suc (length counts)) 1 1 counts (holding items name role p ((before ++ head ∷ []) ++ term_nodes t) (place ∷ ps)) rest others))

  mutual
    term_drafts : (t : Term) (i a l n : ℕ) (counts : List ℕ) (p : Bool) (ns : List Node) (ps : List ℕ) (rest : List Placed)
        → Drafts (Some (in_formula expect.TermEnd i a l (suc n ∷ counts))) (holding items name role p (ns ++ term_nodes t) ps) rest r
        → Drafts (Some (in_formula expect.FunctionEnd i a l (suc n ∷ counts))) (holding items name role p (ns ++ term_nodes t) ps) rest r
        → Drafts (Some (in_formula expect.Term i a l (n ∷ counts))) (holding items name role p ns ps) (term_places (suc (length counts)) n t ++ rest) r
    term_drafts (variable text) i a l n counts p ns ps rest term function_end = term
    term_drafts (application (bare text) no_arguments) i a l n counts p ns ps rest term function_end = function_end
    term_drafts (application (between_quotes text) no_arguments) i a l n counts p ns ps rest term function_end = function_end
    term_drafts (application (bare text) (more_arguments t ts)) i a l n counts p ns ps rest term function_end =
        list_drafts t ts i a l (suc n ∷ counts) p ns (function_node (bare text) 0) ps rest
        (λ place. term_drafts t i a l 0 (suc n ∷ counts) p (ns ++ function_node (bare text) 0 ∷ []) (place ∷ ps) (others_places (suc (length (suc n ∷ counts))) 1 ts ++ rest))
        (others_drafts ts i a l 1 (suc (argument_count ts)) (omega arith) (suc n ∷ counts) p ns (term_nodes t) (function_node (bare text) 0) ps rest term)
    term_drafts (application (between_quotes text) (more_arguments t ts)) i a l n counts p ns ps rest term function_end =
        list_drafts t ts i a l (suc n ∷ counts) p ns (function_node (between_quotes text) 0) ps rest
        (λ place. term_drafts t i a l 0 (suc n ∷ counts) p (ns ++ function_node (between_quotes text) 0 ∷ []) (place ∷ ps) (others_places (suc (length (suc n ∷ counts))) 1 ts ++ rest))
        (others_drafts ts i a l 1 (suc (argument_count ts)) (omega arith) (suc n ∷ counts) p ns (term_nodes t) (function_node (between_quotes text) 0) ps rest term)

    others_drafts : (ts : Arguments) (i a l n all : ℕ) → all ≡ n + argument_count ts → (counts : List ℕ) (p : Bool) (before done : List Node) (head : Node) (ps : List ℕ) (rest : List Placed)
        → Drafts (Some (after_arguments i a l counts)) (holding items name role p (before ++ with_arity all head ∷ (done ++ arguments_nodes ts)) ps) rest r
        → Drafts (Some (in_formula expect.TermEnd i a l (n ∷ counts))) (holding items name role p (before ++ head ∷ done) (length before ∷ ps)) (others_places (suc (length counts)) n ts ++ rest) r
    others_drafts no_arguments i a l n all count counts p before done head ps rest h =
        close counts (subst (λ (ns : List Node). Drafts (Some (after_arguments i a l counts)) (holding items name role p ns ps) rest r) nodes h)
      where
        nodes : before ++ with_arity all head ∷ (done ++ []) ≡ set_arity (length before) n (before ++ head ∷ done)
        nodes = ap (λ l. before ++ with_arity all head ∷ l) (append-nil done) ∙ ap (λ k. before ++ with_arity k head ∷ done) (let e : all ≡ n = omega (arith, count) in e) ∙ sym (set_arity_at before done head n)

        close : (cs : List ℕ) → Drafts (Some (after_arguments i a l cs)) (holding items name role p (set_arity (length before) n (before ++ head ∷ done)) ps) rest r
            → Drafts (Some (in_formula expect.TermEnd i a l (n ∷ cs))) (holding items name role p (before ++ head ∷ done) (length before ∷ ps)) (only CloseParenthesis ∷ rest) r
        close [] g = g
        close (c ∷ cs) g = g
    others_drafts (more_arguments t ts) i a l n all count counts p before done head ps rest h =
        let given : Drafts (Some (after_arguments i a l counts)) (holding items name role p (before ++ with_arity all head ∷ ((done ++ term_nodes t) ++ arguments_nodes ts)) ps) rest r =
        subst (λ (ns : List Node). Drafts (Some (after_arguments i a l counts)) (holding items name role p (before ++ with_arity all head ∷ ns) ps) rest r) (sym (append_assoc done (term_nodes t) (arguments_nodes ts))) h in
        let others : Drafts (Some (in_formula expect.TermEnd i a l (suc n ∷ counts))) (holding items name role p ((before ++ head ∷ done) ++ term_nodes t) (length before ∷ ps)) (others_places (suc (length counts)) (suc n) ts ++ rest) r =
        subst (λ (ns : List Node). Drafts (Some (in_formula expect.TermEnd i a l (suc n ∷ counts))) (holding items name role p ns (length before ∷ ps)) (others_places (suc (length counts)) (suc n) ts ++ rest) r)
        (sym (append_assoc before (head ∷ done) (term_nodes t)))
        (others_drafts ts i a l (suc n) all (omega (arith, count)) counts p before (done ++ term_nodes t) head ps rest given) in
        subst (λ (qs : List Placed). Drafts (Some (in_formula expect.Term i a l (n ∷ counts))) (holding items name role p (before ++ head ∷ done) (length before ∷ ps)) qs r)
        (sym (append_assoc (term_places (suc (length counts)) n t) (others_places (suc (length counts)) (suc n) ts) rest))
        (term_drafts t i a l n counts p (before ++ head ∷ done) (length before ∷ ps) (others_places (suc (length counts)) (suc n) ts ++ rest) others
        (as_function_end_drafts ts i a l (suc (length counts)) (suc n) (suc n) counts (holding items name role p ((before ++ head ∷ done) ++ term_nodes t) (length before ∷ ps)) rest others))

  -- what follows a literal, whatever its sign
  record DraftsLiteral (i a l : ℕ) (ns : List Node) (rest : List Placed) : Type 0 where
    predicate_end : (p : Bool) → Drafts (Some (in_formula expect.PredicateEnd i a l [])) (holding items name role p ns []) rest r
    literal_end : (p : Bool) → Drafts (Some (in_formula expect.LiteralEnd i a l [])) (holding items name role p ns []) rest r

  arguments_drafts : (args : Arguments) (w : Word) (i a l : ℕ) (p : Bool) (ns : List Node) (rest : List Placed)
      → DraftsLiteral i a l (ns ++ predicate_node p w (argument_count args) ∷ arguments_nodes args) rest
      → Drafts (Some (in_formula expect.PredicateEnd i a l [])) (holding items name role p (ns ++ predicate_node p w 0 ∷ []) []) (arguments_places 1 args ++ rest) r
  arguments_drafts no_arguments w i a l p ns rest h = h.predicate_end p
  arguments_drafts (more_arguments t ts) w i a l p ns rest h =
      list_drafts t ts i a l [] p ns (predicate_node p w 0) [] rest
      (λ place. term_drafts t i a l 0 [] p (ns ++ predicate_node p w 0 ∷ []) (place ∷ []) (others_places 1 1 ts ++ rest))
      (others_drafts ts i a l 1 (suc (argument_count ts)) (omega arith) [] p ns (term_nodes t) (predicate_node p w 0) [] rest (h.literal_end p))

  atom_drafts : (atom : Atom) (i a l : ℕ) (p : Bool) (ns : List Node) (rest : List Placed) → DraftsLiteral i a l (ns ++ atom_nodes p atom) rest
      → Drafts (Some (in_formula expect.Atom i a l [])) (holding items name role p ns []) (atom_places an_atom atom ++ rest) r
  atom_drafts (grammar.predicate (bare text) args) i a l p ns rest h = arguments_drafts args (bare text) i a l p ns rest h
  atom_drafts (grammar.predicate (between_quotes text) args) i a l p ns rest h = arguments_drafts args (between_quotes text) i a l p ns rest h
  atom_drafts truth i a l p ns rest h = h.literal_end p
  atom_drafts falsity i a l p ns rest h = h.literal_end p

  literal_drafts : (positive : Bool) (atom : Atom) (i a l : ℕ) (p : Bool) (ns : List Node) (rest : List Placed) → DraftsLiteral i a (suc l) (ns ++ atom_nodes positive atom) rest
      → Drafts (Some (in_formula expect.Literal i a l [])) (holding items name role p ns []) (literal_places l (record { positive = positive; atom = atom }) ++ rest) r
  literal_drafts false atom i a l p ns rest h = atom_drafts atom i a (suc l) false ns rest h
  literal_drafts true (grammar.predicate (bare text) args) i a l p ns rest h = arguments_drafts args (bare text) i a (suc l) true ns rest h
  literal_drafts true (grammar.predicate (between_quotes text) args) i a l p ns rest h = arguments_drafts args (between_quotes text) i a (suc l) true ns rest h
  literal_drafts true truth i a l p ns rest h = h.literal_end true
  literal_drafts true falsity i a l p ns rest h = h.literal_end true

  first_literal_drafts : (positive : Bool) (atom : Atom) (i a : ℕ) (p : Bool) (ns : List Node) (rest : List Placed) → DraftsLiteral i a 1 (ns ++ atom_nodes positive atom) rest
      → Drafts (Some (in_formula expect.Formula i a 0 [])) (holding items name role p ns []) (literal_places 0 (record { positive = positive; atom = atom }) ++ rest) r
  first_literal_drafts false atom i a p ns rest h = atom_drafts atom i a 1 false ns rest h
  first_literal_drafts true (grammar.predicate (bare text) args) i a p ns rest h = arguments_drafts args (bare text) i a 1 true ns rest h
  first_literal_drafts true (grammar.predicate (between_quotes text) args) i a p ns rest h = arguments_drafts args (between_quotes text) i a 1 true ns rest h
  first_literal_drafts true truth i a p ns rest h = h.literal_end true
  first_literal_drafts true falsity i a p ns rest h = h.literal_end true

  nodes_joined : (literal : Literal) (literals : List Literal) (ns : List Node)
      → ns ++ flat_map literal_nodes (literal ∷ literals) ≡ (ns ++ literal_nodes literal) ++ flat_map literal_nodes literals
  nodes_joined literal literals ns = ap (λ ms. ns ++ ms) (flat_map-cons literal_nodes literal literals) ∙ sym (append_assoc ns (literal_nodes literal) (flat_map literal_nodes literals))

  next_literal_drafts : (literal : Literal) (literals : List Literal) (i a l : ℕ) (ns : List Node) (rest : List Placed)
      → DraftsLiteral i a (suc l) (ns ++ literal_nodes literal) (others_joined (suc l) literals ++ rest)
      → DraftsLiteral i a l ns (others_joined l (literal ∷ literals) ++ rest)
  next_literal_drafts literal literals i a l ns rest h = record { predicate_end = next; literal_end = next }
    where
      next : (p : Bool) → Drafts (Some (in_formula expect.Literal i a l [])) (holding items name role p ns []) ((literal_places l literal ++ others_joined (suc l) literals) ++ rest) r
      next p = subst (λ (qs : List Placed). Drafts (Some (in_formula expect.Literal i a l [])) (holding items name role p ns []) qs r) (sym (append_assoc (literal_places l literal) (others_joined (suc l) literals) rest))
          (literal_drafts literal.positive literal.atom i a l p ns (others_joined (suc l) literals ++ rest) h)

  joined_drafts : (literals : List Literal) (i a l : ℕ) (ns : List Node) (rest : List Placed) → ((k : ℕ) → DraftsLiteral i a k (ns ++ flat_map literal_nodes literals) rest)
      → DraftsLiteral i a l ns (others_joined l literals ++ rest)
  joined_drafts [] i a l ns rest h = record {
    predicate_end = λ p. subst (λ (ms : List Node). Drafts (Some (in_formula expect.PredicateEnd i a l [])) (holding items name role p ms []) rest r) (append-nil ns) ((h l).predicate_end p);
    literal_end = λ p. subst (λ (ms : List Node). Drafts (Some (in_formula expect.LiteralEnd i a l [])) (holding items name role p ms []) rest r) (append-nil ns) ((h l).literal_end p);
  }
  joined_drafts (literal ∷ literals) i a l ns rest h =
      next_literal_drafts literal literals i a l ns rest (joined_drafts literals i a (suc l) (ns ++ literal_nodes literal) rest
      (λ k. subst (λ (ms : List Node). DraftsLiteral i a k ms rest) (nodes_joined literal literals ns) (h k)))

  -- what follows a formula, whatever it ends with
  record DraftsFormula (i a : ℕ) (ns : List Node) (rest : List Placed) : Type 0 where
    literal : (l : ℕ) → DraftsLiteral i a l ns rest
    formula_end : (l : ℕ) (p : Bool) → Drafts (Some (in_formula expect.FormulaEnd i a l [])) (holding items name role p ns []) rest r

  formula_drafts : (f : Formula) (i a : ℕ) (p : Bool) (ns : List Node) (rest : List Placed) → DraftsFormula i a (ns ++ flat_map literal_nodes (literals_of f)) rest
      → Drafts (Some (in_formula expect.Formula i a 0 [])) (holding items name role p ns []) (formula_places f ++ rest) r
  formula_drafts (in_parentheses f) i a p ns rest h =
      let inner = formula_drafts f i (suc a) p ns (only CloseParenthesis ∷ rest) (record {
        literal = λ l. record { predicate_end = λ q. h.formula_end l q; literal_end = λ q. h.formula_end l q };
        formula_end = λ l q. h.formula_end l q;
      }) in
      subst (λ (qs : List Placed). Drafts (Some (in_formula expect.Formula i (suc a) 0 [])) (holding items name role p ns []) qs r) (sym (append_assoc (formula_places f) (only CloseParenthesis ∷ []) rest)) inner
  formula_drafts (disjunction first others) i a p ns rest h =
      subst (λ (qs : List Placed). Drafts (Some (in_formula expect.Formula i a 0 [])) (holding items name role p ns []) qs r) (sym (append_assoc (literal_places 0 first) (others_joined 1 others) rest))
      (first_literal_drafts first.positive first.atom i a p ns (others_joined 1 others ++ rest)
      (joined_drafts others i a 1 (ns ++ literal_nodes first) rest (λ k. subst (λ (ms : List Node). DraftsLiteral i a k ms rest) (nodes_joined first others ns) (h.literal k))))

  -- a step that leads to a state
  past_drafts : (st : Option ParserState) (s : ParserState) (d : Draft) (ps : List Placed) → st ≡ Some s → Drafts (Some s) d ps r → Drafts st d ps r
  past_drafts st s d ps is h = subst (λ (x : Option ParserState). Drafts x d ps r) (sym is) h

  -- annotations aren't kept
  group_drafts : (b : Bracket) (inside ts : Annotations) (i l : ℕ) (bs : List Bracket) (d : Draft) (rest : List Placed)
      → Drafts (Some (in_annotations expect.AnnotationsEnd i l (b ∷ bs))) d (annotations_places inside ++ only (closing b) ∷ (annotations_places ts ++ rest)) r
      → Drafts (Some (in_annotations expect.AnnotationsEnd i l (b ∷ bs))) d ((annotations_places inside ++ only (closing b) ∷ annotations_places ts) ++ rest) r
  group_drafts b inside ts i l bs d rest =
      subst (λ (qs : List Placed). Drafts (Some (in_annotations expect.AnnotationsEnd i l (b ∷ bs))) d qs r) (sym (append_assoc (annotations_places inside) (only (closing b) ∷ annotations_places ts) rest))

  annotations_drafts : (ts : Annotations) → AreAnnotations ts → (i l : ℕ) (bs : List Bracket) (d : Draft) (rest : List Placed)
      → Drafts (Some (in_annotations expect.AnnotationsEnd i l bs)) d rest r
      → Drafts (Some (in_annotations expect.AnnotationsEnd i l bs)) d (annotations_places ts ++ rest) r
  annotations_drafts no_more are i l bs d rest h = h
  annotations_drafts (plain t ts) are i l bs d rest h =
      past_drafts (step (in_annotations expect.AnnotationsEnd i l bs) t) (in_annotations expect.AnnotationsEnd i l bs) d (annotations_places ts ++ rest) (plain_step t are.0 i l bs).0 (annotations_drafts ts are.1 i l bs d rest h)
  annotations_drafts (group b inside ts) are i l bs d rest h =
      let after = annotations_drafts ts are.1 i l bs d rest h in
      let inner = annotations_drafts inside are.0 i l (b ∷ bs) d (only (closing b) ∷ (annotations_places ts ++ rest))
      (past_drafts (step (in_annotations expect.AnnotationsEnd i l (b ∷ bs)) (mark (closing b))) (in_annotations expect.AnnotationsEnd i l bs) d (annotations_places ts ++ rest) (close_step b i l bs) after) in
      past_drafts (step (in_annotations expect.AnnotationsEnd i l bs) (mark (opening b))) (in_annotations expect.AnnotationsEnd i l (b ∷ bs)) d ((annotations_places inside ++ only (closing b) ∷ annotations_places ts) ++ rest) (open_step b i l bs).0
      (group_drafts b inside ts i l bs d rest inner)

  -- the whole of the annotations
  annotations_whole : (ts : Annotations) → MayEnd (Some ts) → (i l : ℕ) (d : Draft) (rest : List Placed) → Drafts (Some (in_annotations expect.AnnotationsEnd i l [])) d rest r
      → Drafts (Some (in_annotations expect.Annotations i l [])) d (annotations_places ts ++ rest) r
  annotations_whole no_more may i l d rest h = absurd may
  annotations_whole (plain t ts) may i l d rest h =
      past_drafts (step (in_annotations expect.Annotations i l []) t) (in_annotations expect.AnnotationsEnd i l []) d (annotations_places ts ++ rest) (plain_step t may.0 i l []).1 (annotations_drafts ts may.1 i l [] d rest h)
  annotations_whole (group b inside ts) may i l d rest h =
      let after = annotations_drafts ts may.1 i l [] d rest h in
      let inner = annotations_drafts inside may.0 i l (b ∷ []) d (only (closing b) ∷ (annotations_places ts ++ rest))
      (past_drafts (step (in_annotations expect.AnnotationsEnd i l (b ∷ [])) (mark (closing b))) (in_annotations expect.AnnotationsEnd i l []) d (annotations_places ts ++ rest) (close_step b i l []) after) in
      past_drafts (step (in_annotations expect.Annotations i l []) (mark (opening b))) (in_annotations expect.AnnotationsEnd i l (b ∷ [])) d ((annotations_places inside ++ only (closing b) ∷ annotations_places ts) ++ rest) (open_step b i l []).1
      (group_drafts b inside ts i l [] d rest inner)

  -- the end of an item, after its nodes
  ending_drafts : (ending : Option Annotations) → MayEnd ending → (i : ℕ) (ns : List Node) (rest : List Placed)
      → ((p : Bool) → Drafts (Some (in_item expect.Item (suc i))) (holding (items ++ record { name = name; role = role; nodes = ns } ∷ []) name role p [] []) rest r)
      → DraftsFormula i 0 ns (ending_places ending ++ rest)
  ending_drafts None may i ns rest h = record {
    literal = λ l. record { predicate_end = λ p. h p; literal_end = λ p. h p };
    formula_end = λ l p. h p;
  }
  ending_drafts (Some ts) may i ns rest h = record {
    literal = λ l. record { predicate_end = λ p. whole l p; literal_end = λ p. whole l p };
    formula_end = λ l p. whole l p;
  }
    where
      whole : (l : ℕ) (p : Bool) → Drafts (Some (in_annotations expect.Annotations i l [])) (holding items name role p ns []) ((annotations_places ts ++ only CloseParenthesis ∷ only FullStop ∷ []) ++ rest) r
      whole l p = subst (λ (qs : List Placed). Drafts (Some (in_annotations expect.Annotations i l [])) (holding items name role p ns []) qs r) (sym (append_assoc (annotations_places ts) (only CloseParenthesis ∷ only FullStop ∷ []) rest))
          (annotations_whole ts may i l (holding items name role p ns []) (only CloseParenthesis ∷ only FullStop ∷ rest) (h p))

-- an item is kept by its nodes
item_drafts : (item : Item) → IsItem item → (i : ℕ) (items : List Written) (name : Name) (role : List ℕ) (p : Bool) (rest : List Placed) (r : List Written)
    → ((q : Bool) → Drafts (Some (in_item expect.Item (suc i))) (holding (items ++ written item ∷ []) item.name item.role q [] []) rest r)
    → Drafts (Some (in_item expect.Item i)) (holding items name role p [] []) (item_places i item ++ rest) r
item_drafts item is i items name role p rest r h = named item.name is.name refl
  where
    after_formula : List Placed
    after_formula = (formula_places item.formula ++ ending_places item.annotations) ++ rest

    formula : Drafts (Some (in_formula expect.Formula i 0 0 [])) (holding items item.name item.role p [] []) after_formula r
    formula = subst (λ (qs : List Placed). Drafts (Some (in_formula expect.Formula i 0 0 [])) (holding items item.name item.role p [] []) qs r) (sym (append_assoc (formula_places item.formula) (ending_places item.annotations) rest))
        (formula_drafts items item.name item.role r item.formula i 0 p [] (ending_places item.annotations ++ rest)
        (ending_drafts items item.name item.role r item.annotations is.annotations i (flat_map literal_nodes (literals_of item.formula)) rest h))

    rest_of : List Placed
    rest_of = only Comma ∷ (lower item.role, nothing) ∷ only Comma ∷ after_formula

    formula_of : (n : Name) → n ≡ item.name → Drafts (Some (in_formula expect.Formula i 0 0 [])) (holding items n item.role p [] []) after_formula r
    formula_of n e = subst (λ (m : Name). Drafts (Some (in_formula expect.Formula i 0 0 [])) (holding items m item.role p [] []) after_formula r) (sym e) formula

    named : (n : Name) → IsName n → n ≡ item.name → Drafts (Some (in_item expect.Name i)) (holding items name role p [] []) ((name_token n, nothing) ∷ rest_of) r
    named (grammar.word (bare text)) is_name e = formula_of (grammar.word (bare text)) e
    named (grammar.word (between_quotes text)) is_name e = formula_of (grammar.word (between_quotes text)) e
    named (integer digits) is_name e =
        past_drafts items name role r (step (in_item expect.Name i) (name_token (integer digits))) (in_item expect.NameEnd i) (holding items (integer digits) role p [] []) rest_of
        (name_step_is (integer digits) is_name i) (formula_of (integer digits) e)

pub file_drafts : (file : List Item) → AreItems file → (i : ℕ) (items : List Written) (name : Name) (role : List ℕ) (p : Bool)
    → Drafts (Some (in_item expect.Item i)) (holding items name role p [] []) (file_places i file) (items ++ map written file)
file_drafts [] are i items name role p = sym (append-nil items)
file_drafts (item ∷ file) are i items name role p =
    item_drafts item are.0 i items name role p (file_places (suc i) file) (items ++ map written (item ∷ file))
    (λ q. subst (λ (all : List Written). Drafts (Some (in_item expect.Item (suc i))) (holding (items ++ written item ∷ []) item.name item.role q [] []) (file_places (suc i) file) all)
    (append_assoc items (written item ∷ []) (map written file)) (file_drafts file are.1 (suc i) (items ++ written item ∷ []) item.name item.role q))
