-- What the laws of a key say of attempts.
use Rattle.std.proofs.Common.{◌≡◌, ℕ, ◌<◌, ◌∙◌, List, [], ◌∷◌, ◌++◌, sym, ap, subst, arith, append_assoc}
use Rattle.std.proofs.lemmas.List.{append-nil, same_from_push}
use Rattle.pm_space.specs.Key.{Key, IsKey}
use Rattle.pm_search.specs.Attempts.{IsAttempt}
use Rattle.pm_search.proofs.ListOrder.{split_end}

-- each prefix of a reached list is reached
pub reached_prefix : (key : Key) (laws : IsKey key) (path rest : List ℕ) → key.reached (path ++ rest) → key.reached path
reached_prefix key laws path [] reached = subst (λ (l : List ℕ). key.reached l) (append-nil path) reached
reached_prefix key laws path (x ∷ rest) reached =
    laws.prefix path x (reached_prefix key laws (path ++ x ∷ []) rest (subst (λ (l : List ℕ). key.reached l) (sym (append_assoc path (x ∷ []) rest)) reached))

-- each proper prefix of an attempt is reached, and what follows it is an alternative
pub record IsWithinAttempt (key : Key) (path : List ℕ) (choice : ℕ) : Type 0 where
  pub reached : key.reached path
  pub below : choice < key.width path

pub prefix_of_attempt : (key : Key) (laws : IsKey key) (list : List ℕ) → IsAttempt key list
    → (path : List ℕ) (choice : ℕ) (rest : List ℕ) → list ≡ path ++ choice ∷ rest → IsWithinAttempt key path choice
prefix_of_attempt key laws list attempt path choice [] is =
    let same = same_from_push attempt.path path attempt.choice choice (sym attempt.parts ∙ is) in
    record {
      reached = subst (λ (l : List ℕ). key.reached l) same.0 attempt.reached;
      below = subst (λ (n : ℕ). n < key.width path) same.1 (subst (λ (l : List ℕ). attempt.choice < key.width l) same.0 attempt.below);
    }
prefix_of_attempt key laws list attempt path choice (y ∷ ys) is =
    let end' = split_end y ys in
    let parts : attempt.path ++ attempt.choice ∷ [] ≡ (path ++ choice ∷ end'.0) ++ end'.1 ∷ [] =
    sym attempt.parts ∙ is ∙ ap (λ (l : List ℕ). path ++ choice ∷ l) end'.2 ∙ sym (append_assoc path (choice ∷ end'.0) (end'.1 ∷ [])) in
    let same = same_from_push attempt.path (path ++ choice ∷ end'.0) attempt.choice end'.1 parts in
    let whole : key.reached (path ++ choice ∷ end'.0) = subst (λ (l : List ℕ). key.reached l) same.0 attempt.reached in
    let longer : key.reached (path ++ choice ∷ []) =
    reached_prefix key laws (path ++ choice ∷ []) end'.0 (subst (λ (l : List ℕ). key.reached l) (sym (append_assoc path (choice ∷ []) end'.0)) whole) in
    record { reached = laws.prefix path choice longer; below = laws.below path choice longer }

-- each complete list is an attempt
pub complete_is_attempt : (key : Key) (laws : IsKey key) (list : List ℕ) → key.complete list → IsAttempt key list
complete_is_attempt key laws [] complete = absurd (laws.complete_chosen complete)
complete_is_attempt key laws (x ∷ xs) complete =
    let end' = split_end x xs in
    let reached : key.reached (end'.0 ++ end'.1 ∷ []) = subst (λ (l : List ℕ). key.reached l) end'.2 (laws.complete_reached (x ∷ xs) complete) in
    let below : end'.1 < key.width end'.0 = laws.below end'.0 end'.1 reached in
    record {
      path = end'.0;
      choice = end'.1;
      parts = end'.2;
      reached = laws.prefix end'.0 end'.1 reached;
      incomplete = λ ended. absurd (omega (arith, below, laws.complete_ends end'.0 ended));
      below = below;
    }

-- a reached list followed by an alternative is an attempt
pub attempt_here : (key : Key) (laws : IsKey key) (list path : List ℕ) (choice : ℕ) → list ≡ path ++ choice ∷ [] → key.reached path → choice < key.width path → IsAttempt key list
attempt_here key laws list path choice is reached below = record {
  path = path;
  choice = choice;
  parts = is;
  reached = reached;
  incomplete = λ ended. absurd (omega (arith, below, laws.complete_ends path ended));
  below = below;
}
