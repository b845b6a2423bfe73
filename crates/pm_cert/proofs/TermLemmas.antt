-- Terms that come after their arguments, and lists of them that hold each once.
use Rattle.std.proofs.Common.{◌≡◌, ◌⊎◌, inl, inr, ◌≤◌, List, [], ◌∷◌, ◌++◌, length, refl, sym, subst, append_assoc, arith}
use Rattle.std.specs.List.{All, Contains}
use Rattle.std.proofs.lemmas.List.{append-nil, length-append}
use Rattle.std.proofs.lemmas.List.Elements.{All-head, All-tail, All-nil, All-cons, All-append, All-weaker, All-contains, Contains-append_left, Contains-append_right, Contains-push, Contains-push_cases}
use Rattle.pm_logic.specs.Lists.{Gathers}
use Rattle.pm_logic.specs.Term.{Term, Terms, var, app, no_terms, more_terms, list_of}
use Rattle.pm_cert.specs.Terms.{subterms, subterms_among}
use Rattle.pm_cert.specs.Inside.Listing.{HasArgsIn, FollowArgs}

-- what is in the first list is in the second
abbrev pub AreAmong : List Term → List Term → Type 0
AreAmong xs ys = (t : Term) → Contains xs t → Contains ys t

among-push : (xs ys : List Term) (t : Term) → AreAmong xs ys → AreAmong (xs ++ t ∷ []) (ys ++ t ∷ [])
among-push xs ys t more = λ u h. by u (Contains-push_cases xs t u h)
  where
    by : (u : Term) → Contains xs u ⊎ (t ≡ u) → Contains (ys ++ t ∷ []) u
    by u (inl h) = Contains-append_left ys (t ∷ []) u (more u h)
    by u (inr e) = subst (Contains (ys ++ t ∷ [])) e (Contains-push ys t)

among-there : (xs ys : List Term) (t : Term) → AreAmong xs ys → Contains ys t → AreAmong (xs ++ t ∷ []) ys
among-there xs ys t more there = λ u h. by u (Contains-push_cases xs t u h)
  where
    by : (u : Term) → Contains xs u ⊎ (t ≡ u) → Contains ys u
    by u (inl h) = more u h
    by u (inr e) = subst (Contains ys) e there

pub has_args-more : (xs ys : List Term) (t : Term) → AreAmong xs ys → HasArgsIn xs t → HasArgsIn ys t
has_args-more xs ys (var n) more h = tt
has_args-more xs ys (app f args) more h = All-weaker (Contains xs) (Contains ys) more (list_of args) h

pub follow-append : (ts us before : List Term) → FollowArgs before ts → FollowArgs (before ++ ts) us → FollowArgs before (ts ++ us)
follow-append [] us before first second = subst (λ (b : List Term). FollowArgs b us) (append-nil before) second
follow-append (t ∷ ts) us before first second = (
  first.0,
  follow-append ts us (before ++ t ∷ []) first.1
      (subst (λ (b : List Term). FollowArgs b us) (sym (append_assoc before (t ∷ []) ts)) second),
)

-- those that come later follow too
pub follow-later : (ts us before : List Term) → FollowArgs before (ts ++ us) → FollowArgs (before ++ ts) us
follow-later [] us before h = subst (λ (b : List Term). FollowArgs b us) (sym (append-nil before)) h
follow-later (t ∷ ts) us before h =
    subst (λ (b : List Term). FollowArgs b us) (append_assoc before (t ∷ []) ts) (follow-later ts us (before ++ t ∷ []) h.1)

-- ---- a term among its parts

pub own_part : (t : Term) → Contains (subterms t) t
own_part (var n) = Contains-push [] (var n)
own_part (app f args) = Contains-push (subterms_among args) (app f args)

pub args_among : (args : Terms) → All (Contains (subterms_among args)) (list_of args)
args_among no_terms = All-nil (Contains [])
args_among (more_terms t ts) =
    All-cons (Contains (subterms t ++ subterms_among ts)) t (list_of ts)
    (Contains-append_left (subterms t) (subterms_among ts) t (own_part t))
    (All-weaker (Contains (subterms_among ts)) (Contains (subterms t ++ subterms_among ts))
    (λ u h. Contains-append_right (subterms t) (subterms_among ts) u h) (list_of ts) (args_among ts))

mutual
  pub subterms-follow : (t : Term) (before : List Term) → FollowArgs before (subterms t)
  subterms-follow (var n) before = (tt, tt)
  subterms-follow (app f args) before =
      follow-append (subterms_among args) (app f args ∷ []) before (subterms_among-follow args before) (
        All-weaker (Contains (subterms_among args)) (Contains (before ++ subterms_among args))
            (λ u h. Contains-append_right before (subterms_among args) u h) (list_of args) (args_among args),
        tt,
      )

  pub subterms_among-follow : (ts : Terms) (before : List Term) → FollowArgs before (subterms_among ts)
  subterms_among-follow no_terms before = tt
  subterms_among-follow (more_terms t ts) before =
      follow-append (subterms t) (subterms_among ts) before (subterms-follow t before) (subterms_among-follow ts (before ++ subterms t))

pub some_parts : (t : Term) → 1 ≤ length (subterms t)
some_parts (var n) = omega arith
some_parts (app f args) = omega (arith, length-append (subterms_among args) (app f args ∷ []))

-- ---- lists that hold each term once

-- terms that follow their arguments still do once each stands there once
pub gathered-follow : (ts seen old new : List Term) → FollowArgs seen ts → AreAmong seen old → FollowArgs [] old → Gathers old ts new → FollowArgs [] new
gathered-follow [] seen old new follow among before h = subst (FollowArgs []) h before
gathered-follow (t ∷ ts) seen old new follow among before (inl h) =
    gathered-follow ts (seen ++ t ∷ []) old new follow.1 (among-there seen old t among h.0) before h.1
gathered-follow (t ∷ ts) seen old new follow among before (inr h) =
    gathered-follow ts (seen ++ t ∷ []) (old ++ t ∷ []) new follow.1 (among-push seen old t among)
    (follow-append old (t ∷ []) [] before (has_args-more seen old t among follow.0, tt)) h.1

-- then each has its arguments there
pub follow-closed : (ts before : List Term) → FollowArgs before ts → All (HasArgsIn (before ++ ts)) ts
follow-closed [] before h = All-nil (HasArgsIn (before ++ []))
follow-closed (t ∷ ts) before h =
    All-cons (HasArgsIn (before ++ t ∷ ts)) t ts
    (has_args-more before (before ++ t ∷ ts) t (λ u. Contains-append_left before (t ∷ ts) u) h.0)
    (subst (λ (all : List Term). All (HasArgsIn all) ts) (append_assoc before (t ∷ []) ts) (follow-closed ts (before ++ t ∷ []) h.1))

-- and so all its parts
module _ (ts : List Term) (closed : All (HasArgsIn ts) ts) where
  mutual
    pub parts_there : (t : Term) → Contains ts t → All (Contains ts) (subterms t)
    parts_there (var n) h = All-cons (Contains ts) (var n) [] h (All-nil (Contains ts))
    parts_there (app f args) h =
        All-append (Contains ts) (subterms_among args) (app f args ∷ [])
        (parts_among_there args (All-contains (HasArgsIn ts) ts (app f args) closed h))
        (All-cons (Contains ts) (app f args) [] h (All-nil (Contains ts)))

    pub parts_among_there : (args : Terms) → All (Contains ts) (list_of args) → All (Contains ts) (subterms_among args)
    parts_among_there no_terms h = All-nil (Contains ts)
    parts_among_there (more_terms t more) h =
        All-append (Contains ts) (subterms t) (subterms_among more) (parts_there t (All-head (Contains ts) t (list_of more) h)) (parts_among_there more (All-tail (Contains ts) t (list_of more) h))

-- what is there is gathered without a change
pub gathers_there : (xs old : List Term) → All (Contains old) xs → Gathers old xs old
gathers_there [] old h = refl
gathers_there (x ∷ xs) old h = inl (All-head (Contains old) x xs h, gathers_there xs old (All-tail (Contains old) x xs h))
