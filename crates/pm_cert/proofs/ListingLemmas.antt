-- Steps of the walk that lists terms.
use Rattle.std.proofs.Common.{◌≡◌, inl, inr, ℕ, zero, suc, ◌+◌, ◌*◌, ◌<◌, ◌==◌, ◌||◌, Bool, true, false, cond, List, [], ◌∷◌, ◌++◌, Bor, length, map, take, get_or, refl, sym, ap, subst, ◌∙◌, append_assoc, arith, eqb-true, eq-eqb, true≢false}
use Rattle.std.specs.List.{All, Contains, list_any}
use Rattle.std.proofs.lemmas.List.{append-nil, length-append, map-append, take_more, length-map, get_or-map}
use Rattle.std.proofs.lemmas.List.Folds.{list_any_at}
use Rattle.std.proofs.lemmas.List.Elements.{All-nil, All-cons, All-head, All-tail, All-push}
use Rattle.pm_logic.specs.Lists.{Gathers}
use Rattle.pm_logic.specs.Term.{Term, var, app, as_terms, tree_at}
use Rattle.pm_logic.proofs.Gathering.{Gathers-append}
use Rattle.pm_cert.specs.declared.list.OpenTerm.{OpenTerm}
use Rattle.pm_cert.specs.Terms.{subterms, subterms_among}
use Rattle.pm_cert.specs.Inside.Listing.{HasArgsIn, FollowArgs, AreRows, AreFinished, left_of, left_of_all, IsWithin, weight, StepsOn}
use Rattle.pm_cert.proofs.TermLemmas.{follow-append, follow-later, subterms-follow, some_parts, gathered-follow, follow-closed, parts_there, gathers_there}
use Rattle.pm_cert.proofs.RowLemmas.{row_there}

-- ---- a row that is added

pub is_there : (row : ℕ) (rows : List ℕ) → list_any (λ r. row == r) rows ≡ true → Contains rows row
is_there row [] e = absurd (true≢false (sym e))
is_there row (r ∷ rows) e = by (row == r) refl (is_there row rows) e
  where
    by : (b : Bool) → (row == r) ≡ b → (list_any (λ r. row == r) rows ≡ true → Contains rows row) → (b || list_any (λ r. row == r) rows) ≡ true → Contains (r ∷ rows) row
    by true same later e = (zero, omega arith, sym (eqb-true row r same))
    by false same later e = let h = later e in (suc h.0, omega (arith, h.1), h.2)

pub there_is : (row : ℕ) (rows : List ℕ) → Contains rows row → list_any (λ r. row == r) rows ≡ true
there_is row rows h = list_any_at (λ r. row == r) rows h.0 row h.1 (eq-eqb row (get_or rows h.0 row) (sym h.2))

pub term_there : (terms : List Term) (rows : List ℕ) (row : ℕ) → Contains rows row → Contains (map (tree_at terms) rows) (tree_at terms row)
term_there terms rows row h = (
  h.0,
  omega (arith, h.1, length-map rows (tree_at terms)),
  get_or-map (tree_at terms) rows h.0 row (tree_at terms row) h.1 ∙ ap (tree_at terms) h.2,
)

module _ (terms finished : List Term) (row : ℕ) (old : List ℕ) (lt : row < length terms) (are : AreFinished terms finished old) where
  -- the terms that are listed have their arguments among them
  pub listed-closed : All (HasArgsIn (map (tree_at terms) old)) (map (tree_at terms) old)
  listed-closed =
      follow-closed (map (tree_at terms) old) []
      (gathered-follow finished [] [] (map (tree_at terms) old) are.follow (λ t h. h) tt are.gathered)

  finished-with : (more : List Term) (new : List ℕ) → FollowArgs finished more → AreRows terms new → Gathers (map (tree_at terms) old) more (map (tree_at terms) new) → AreFinished terms (finished ++ more) new
  finished-with more new follow rows gathered =
      record {
        are_rows = rows;
        follow = follow-append finished more [] are.follow follow;
        gathered = Gathers-append finished more [] (map (tree_at terms) old) (map (tree_at terms) new) are.gathered gathered;
      }

  pub finished-add : (new : List ℕ) → HasArgsIn finished (tree_at terms row) → new ≡ cond (list_any (λ r. row == r) old) old (old ++ row ∷ []) → AreFinished terms (finished ++ tree_at terms row ∷ []) new
  finished-add new follow is = by (list_any (λ r. row == r) old) refl is
    where
      tree : Term
      tree = tree_at terms row

      by : (b : Bool) → list_any (λ r. row == r) old ≡ b → new ≡ cond b old (old ++ row ∷ []) → AreFinished terms (finished ++ tree ∷ []) new
      by true e same =
          subst (AreFinished terms (finished ++ tree ∷ [])) (sym same)
          (finished-with (tree ∷ []) old (follow, tt) are.are_rows
          (inl (term_there terms old row (is_there row old e), refl)))
      by false e same =
          subst (AreFinished terms (finished ++ tree ∷ [])) (sym same)
          (finished-with (tree ∷ []) (old ++ row ∷ []) (follow, tt)
          (record { distinct = are.are_rows.distinct; within = All-push (λ r. r < length terms) old row are.are_rows.within lt })
          (inr (
            λ h. true≢false (sym (there_is row old (row_there terms old row are.are_rows lt h)) ∙ e),
            sym (map-append (tree_at terms) old (row ∷ [])),
          )))

  -- a term that is listed is passed over with all its parts
  pub finished-skip : list_any (λ r. row == r) old ≡ true → AreFinished terms (finished ++ subterms (tree_at terms row)) old
  finished-skip e =
      finished-with (subterms (tree_at terms row)) old (subterms-follow (tree_at terms row) finished) are.are_rows
      (gathers_there (subterms (tree_at terms row)) (map (tree_at terms) old)
      (parts_there (map (tree_at terms) old) listed-closed (tree_at terms row) (term_there terms old row (is_there row old e))))

-- ---- what is left of open terms

pub left-push : (terms : List Term) (opened : List OpenTerm) (last : OpenTerm) → left_of_all terms (opened ++ last ∷ []) ≡ left_of terms last ++ left_of_all terms opened
left-push terms [] last = sym (append-nil (left_of terms last))
left-push terms (o ∷ os) last =
    ap (λ (ts : List Term). ts ++ left_of terms o) (left-push terms os last)
    ∙ append_assoc (left_of terms last) (left_of_all terms os) (left_of terms o)

own_weight : List Term → OpenTerm → ℕ
own_weight terms o = 1 + 2 * length (subterms_among (as_terms (map (tree_at terms) o.args.now)))

pub weight-push : (terms : List Term) (opened : List OpenTerm) (last : OpenTerm)
    → weight terms (opened ++ last ∷ []) ≡ 1 + 2 * length (subterms_among (as_terms (map (tree_at terms) last.args.now))) + weight terms opened
weight-push terms [] last = refl
weight-push terms (o ∷ os) last = omega (arith, weight-push terms os last)

pub within-split : (count : ℕ) (opened : List OpenTerm) (last : OpenTerm) → All (IsWithin count) (opened ++ last ∷ []) → All (IsWithin count) opened × IsWithin count last
within-split count [] last all = (All-nil (IsWithin count), All-head (IsWithin count) last [] all)
within-split count (o ∷ os) last all =
    let later = within-split count os last (All-tail (IsWithin count) o (os ++ last ∷ []) all) in
    (All-cons (IsWithin count) o os (All-head (IsWithin count) o (os ++ last ∷ []) all) later.0, later.1)

-- ---- what a row begins

module _ (terms finished : List Term) (row : ℕ) (rows : List ℕ) where
  -- a term that is listed
  pub step-skip : (rest : List Term) → row < length terms → AreFinished terms finished rows → list_any (λ r. row == r) rows ≡ true
      → StepsOn terms finished rows (subterms (tree_at terms row) ++ rest) rest
  step-skip rest lt are e = (subterms (tree_at terms row), finished-skip terms finished row rows lt are e, refl)

  -- a variable
  pub step-variable : (n : ℕ) (new : List ℕ) (rest : List Term) → tree_at terms row ≡ var n
      → (HasArgsIn finished (tree_at terms row) → AreFinished terms (finished ++ tree_at terms row ∷ []) new)
      → StepsOn terms finished new (subterms (tree_at terms row) ++ rest) rest
  step-variable n new rest is add = (
    tree_at terms row ∷ [],
    add (subst (HasArgsIn finished) (sym is) tt),
    ap (λ (ts : List Term). ts ++ rest) (ap (λ (t : Term). t ∷ []) is ∙ ap subterms (sym is)),
  )

  -- an application, which is opened
  pub step-open : (symbol : ℕ) (opened new : List OpenTerm) (last : OpenTerm) → last.row ≡ row → tree_at terms row ≡ app symbol (as_terms (map (tree_at terms) last.args.now))
      → new ≡ opened ++ last ∷ [] → AreFinished terms finished rows
      → StepsOn terms finished rows (subterms (tree_at terms row) ++ left_of_all terms opened) (left_of_all terms new)
  step-open symbol opened new last same is pushed are = (
    [],
    subst (λ (ts : List Term). AreFinished terms ts rows) (sym (append-nil finished)) are,
    ap (left_of_all terms) pushed ∙ left-push terms opened last
        ∙ ap (λ (t : Term). (subterms_among (as_terms (map (tree_at terms) last.args.now)) ++ t ∷ []) ++ left_of_all terms opened) (ap (tree_at terms) same ∙ is)
        ∙ ap (λ (t : Term). subterms t ++ left_of_all terms opened) (sym is),
  )

pub size-open : (terms : List Term) (row symbol : ℕ) (opened new : List OpenTerm) (last : OpenTerm) → tree_at terms row ≡ app symbol (as_terms (map (tree_at terms) last.args.now))
    → new ≡ opened ++ last ∷ [] → weight terms new < weight terms opened + 2 * length (subterms (tree_at terms row))
size-open terms row symbol opened new last is pushed =
    let args : List Term = subterms_among (as_terms (map (tree_at terms) last.args.now)) in
    let whole : length (subterms (tree_at terms row)) ≡ length args + 1 = ap (λ (t : Term). length (subterms t)) is ∙ length-append args (app symbol (as_terms (map (tree_at terms) last.args.now)) ∷ []) in
    let heavy : weight terms new ≡ 1 + 2 * length args + weight terms opened = ap (weight terms) pushed ∙ weight-push terms opened last in
    omega arith

pub size-same : (terms : List Term) (row : ℕ) (opened : List OpenTerm) → weight terms opened < weight terms opened + 2 * length (subterms (tree_at terms row))
size-same terms row opened = omega (arith, some_parts (tree_at terms row))

pub within-open : (count : ℕ) (opened new : List OpenTerm) (last : OpenTerm) → new ≡ opened ++ last ∷ [] → last.row < count → All (λ arg. arg < last.row) last.args.now
    → All (IsWithin count) opened → All (IsWithin count) new
within-open count opened new last pushed lt below all =
    subst (All (IsWithin count)) (sym pushed)
    (All-push (IsWithin count) opened last all (record { row = lt; args = λ k d k_in. let h = below k d k_in in omega arith }))

-- ---- a turn of the walk

module _ (terms finished whole : List Term) (rows : List ℕ) (opened outer : List OpenTerm) (last : OpenTerm) (is : opened ≡ outer ++ last ∷ [])
    (so_far : StepsOn terms finished rows whole (left_of_all terms opened)) where
  -- the arguments of the innermost term are listed, and then it is too
  pub turn-close : (new : List ℕ) → length last.args.now ≡ 0 → FollowArgs finished whole
      → (HasArgsIn (finished ++ so_far.0) (tree_at terms last.row) → AreFinished terms ((finished ++ so_far.0) ++ tree_at terms last.row ∷ []) new)
      → StepsOn terms finished new whole (left_of_all terms outer)
  turn-close new none follow add =
      let tree : Term = tree_at terms last.row in
      let left : left_of_all terms opened ≡ tree ∷ left_of_all terms outer = ap (left_of_all terms) is ∙ left-push terms outer last ∙ no_args last.args.now none tree in
      let all : so_far.0 ++ tree ∷ left_of_all terms outer ≡ whole = ap (λ (ts : List Term). so_far.0 ++ ts) (sym left) ∙ so_far.2 in
      let later = follow-later so_far.0 (tree ∷ left_of_all terms outer) finished (subst (FollowArgs finished) (sym all) follow) in (
        so_far.0 ++ tree ∷ [],
        subst (λ (ts : List Term). AreFinished terms ts new) (append_assoc finished so_far.0 (tree ∷ [])) (add later.0),
        append_assoc so_far.0 (tree ∷ []) (left_of_all terms outer) ∙ all,
      )
    where
      no_args : (args : List ℕ) → length args ≡ 0 → (tree : Term) → (subterms_among (as_terms (map (tree_at terms) args)) ++ tree ∷ []) ++ left_of_all terms outer ≡ tree ∷ left_of_all terms outer
      no_args [] e tree = refl
      no_args (a ∷ args) e tree = absurd (omega arith)

  -- the next argument of the innermost term is begun with
  pub turn-next : (new : List ℕ) (first : ℕ) (others : Bor (List ℕ)) (kept next : List OpenTerm) → last.args.now ≡ first ∷ others.now
      → kept ≡ outer ++ record { row = last.row; args = others } ∷ []
      → (AreFinished terms (finished ++ so_far.0) rows → StepsOn terms (finished ++ so_far.0) new (subterms (tree_at terms first) ++ left_of_all terms kept) (left_of_all terms next))
      → StepsOn terms finished new whole (left_of_all terms next)
  turn-next new first others kept next cut keeps enter =
      let tree : Term = tree_at terms last.row in
      let rest : List Term = subterms_among (as_terms (map (tree_at terms) others.now)) in
      let left : left_of_all terms opened ≡ ((subterms (tree_at terms first) ++ rest) ++ tree ∷ []) ++ left_of_all terms outer =
      ap (left_of_all terms) is ∙ left-push terms outer last
      ∙ ap (λ (args : List ℕ). (subterms_among (as_terms (map (tree_at terms) args)) ++ tree ∷ []) ++ left_of_all terms outer) cut in
      let same : subterms (tree_at terms first) ++ left_of_all terms kept ≡ left_of_all terms opened =
      ap (λ (ts : List Term). subterms (tree_at terms first) ++ ts) (ap (left_of_all terms) keeps ∙ left-push terms outer (record { row = last.row; args = others }))
      ∙ regroup (subterms (tree_at terms first)) rest (tree ∷ []) (left_of_all terms outer)
      ∙ sym left in
      let step = enter so_far.1 in (
        so_far.0 ++ step.0,
        subst (λ (ts : List Term). AreFinished terms ts new) (append_assoc finished so_far.0 step.0) step.1,
        append_assoc so_far.0 step.0 (left_of_all terms next)
            ∙ ap (λ (ts : List Term). so_far.0 ++ ts) (step.2 ∙ same)
            ∙ so_far.2,
      )
    where
      regroup : (a b c d : List Term) → a ++ ((b ++ c) ++ d) ≡ ((a ++ b) ++ c) ++ d
      regroup a b c d = simp append_assoc

pub smaller-close : (terms : List Term) (opened outer : List OpenTerm) (last : OpenTerm) → opened ≡ outer ++ last ∷ [] → weight terms outer < weight terms opened
smaller-close terms opened outer last is =
    let heavy = ap (weight terms) is ∙ weight-push terms outer last in
    omega (arith, heavy)

pub smaller-next : (terms : List Term) (opened outer kept next : List OpenTerm) (last : OpenTerm) (first : ℕ) (others : Bor (List ℕ)) → opened ≡ outer ++ last ∷ [] → last.args.now ≡ first ∷ others.now
    → kept ≡ outer ++ record { row = last.row; args = others } ∷ []
    → weight terms next < weight terms kept + 2 * length (subterms (tree_at terms first)) → weight terms next < weight terms opened
smaller-next terms opened outer kept next last first others is cut keeps less =
    let heavy = ap (weight terms) is ∙ weight-push terms outer last in
    let kept_heavy = ap (weight terms) keeps ∙ weight-push terms outer (record { row = last.row; args = others }) in
    let parts : length (subterms_among (as_terms (map (tree_at terms) last.args.now))) ≡ length (subterms (tree_at terms first)) + length (subterms_among (as_terms (map (tree_at terms) others.now))) =
    ap (λ (args : List ℕ). length (subterms_among (as_terms (map (tree_at terms) args)))) cut
    ∙ length-append (subterms (tree_at terms first)) (subterms_among (as_terms (map (tree_at terms) others.now))) in
    omega (arith, heavy, kept_heavy, parts, less)

pub within-close : (count : ℕ) (opened outer : List OpenTerm) (last : OpenTerm) → opened ≡ outer ++ last ∷ [] → All (IsWithin count) opened → All (IsWithin count) outer × IsWithin count last
within-close count opened outer last is all = within-split count outer last (subst (All (IsWithin count)) is all)

pub within-next : (count : ℕ) (opened outer kept : List OpenTerm) (last : OpenTerm) (first : ℕ) (others : Bor (List ℕ)) → opened ≡ outer ++ last ∷ [] → last.args.now ≡ first ∷ others.now
    → kept ≡ outer ++ record { row = last.row; args = others } ∷ [] → All (IsWithin count) opened → All (IsWithin count) kept × (first < count)
within-next count opened outer kept last first others is cut keeps all =
    let split = within-close count opened outer last is all in
    let args : All (λ arg. arg < count) (first ∷ others.now) = subst (All (λ arg. arg < count)) cut split.1.args in (
      subst (All (IsWithin count)) (sym keeps)
          (All-push (IsWithin count) outer (record { row = last.row; args = others }) split.0 (record { row = split.1.row; args = All-tail (λ arg. arg < count) first others.now args })),
      All-head (λ arg. arg < count) first others.now args,
    )

pub walk-end : (terms finished whole : List Term) (rows : List ℕ) (opened : List OpenTerm) → length opened ≡ 0 → StepsOn terms finished rows whole (left_of_all terms opened) → AreFinished terms (finished ++ whole) rows
walk-end terms finished whole rows [] none steps =
    subst (λ (ts : List Term). AreFinished terms (finished ++ ts) rows) (sym (append-nil steps.0) ∙ steps.2) steps.1
walk-end terms finished whole rows (o ∷ opened) none steps = absurd (omega arith)

-- ---- the rows of lists

-- one more row of a list
pub terms-next : (terms finished : List Term) (rows : List ℕ) (i row : ℕ) → i < length rows → row ≡ get_or rows i row
    → (finished ++ subterms_among (as_terms (map (tree_at terms) (take i rows)))) ++ subterms (tree_at terms row) ≡ finished ++ subterms_among (as_terms (map (tree_at terms) (take (i + 1) rows)))
terms-next terms finished rows i row lt is =
    append_assoc finished (subterms_among (as_terms (map (tree_at terms) (take i rows)))) (subterms (tree_at terms row))
    ∙ ap (λ (ts : List Term). finished ++ ts) (sym (one_more (take i rows) row)
    ∙ ap (λ (rs : List ℕ). subterms_among (as_terms (map (tree_at terms) rs))) (ap (λ (r : ℕ). take i rows ++ r ∷ []) is ∙ sym (take_more rows i row lt)))
  where
    one_more : (rs : List ℕ) (r : ℕ) → subterms_among (as_terms (map (tree_at terms) (rs ++ r ∷ []))) ≡ subterms_among (as_terms (map (tree_at terms) rs)) ++ subterms (tree_at terms r)
    one_more [] r = append-nil (subterms (tree_at terms r))
    one_more (x ∷ rs) r =
        ap (λ (ts : List Term). subterms (tree_at terms x) ++ ts) (one_more rs r)
        ∙ sym (append_assoc (subterms (tree_at terms x)) (subterms_among (as_terms (map (tree_at terms) rs))) (subterms (tree_at terms r)))
