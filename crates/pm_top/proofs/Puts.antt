-- Putting a text piece by piece.
use Rattle.std.proofs.Common.{◌≡◌, ℕ, List, ◌++◌, length, take, drop, Option, Some, None, refl, sym, ap, subst, ◌∙◌, append_assoc}
use Rattle.std.specs.Option.{option_map}
use Rattle.std.proofs.lemmas.List.{take-append-drop, take_at}
use Rattle.pm_outside.specs.Outside.{Appends, AppendsPrefix}

-- what has been put so far
pub record HasPut (old new : Option (List ℕ)) (before now : ℕ) (text rest : List ℕ) : Type 0 where
  pub front : List ℕ
  pub parts : text ≡ front ++ rest
  pub written : Appends old new front
  pub counted : now ≡ before

append_told : (old : Option (List ℕ)) (a b : List ℕ) → option_map (λ written. written ++ b) (option_map (λ written. written ++ a) old) ≡ option_map (λ written. written ++ (a ++ b)) old
append_told None a b = refl
append_told (Some w) a b = ap (λ (x : List ℕ). Some x) (append_assoc w a b)

Appends-then : (old mid new : Option (List ℕ)) (a b : List ℕ) → Appends old mid a → Appends mid new b → Appends old new (a ++ b)
Appends-then old mid new a b first second =
    second ∙ ap (λ (m : Option (List ℕ)). option_map (λ written. written ++ b) m) first ∙ append_told old a b

pub puts_on : (old mid new : Option (List ℕ)) (before then now : ℕ) (text rest piece after : List ℕ) (so_far : HasPut old mid before then text rest)
    → piece ≡ take (length piece) rest → after ≡ drop (length piece) rest → Appends mid new piece → now ≡ then → HasPut old new before now text after
puts_on old mid new before then now text rest piece after so_far piece-is after-is put counted =
    let whole : rest ≡ piece ++ after = sym (take-append-drop (length piece) rest) ∙ ap (λ (p : List ℕ). p ++ drop (length piece) rest) (sym piece-is) ∙ ap (λ (a : List ℕ). piece ++ a) (sym after-is) in
    record {
      front = so_far.front ++ piece;
      parts = so_far.parts ∙ ap (λ (r : List ℕ). so_far.front ++ r) whole ∙ sym (append_assoc so_far.front piece after);
      written = Appends-then old mid new so_far.front piece so_far.written put;
      counted = counted ∙ so_far.counted;
    }

pub breaks_off : (old mid new : Option (List ℕ)) (before then : ℕ) (text rest piece after : List ℕ) (so_far : HasPut old mid before then text rest)
    → piece ≡ take (length piece) rest → after ≡ drop (length piece) rest → AppendsPrefix mid new piece → AppendsPrefix old new text
breaks_off old mid new before then text rest piece after so_far piece-is after-is put =
    let whole : rest ≡ piece ++ after = sym (take-append-drop (length piece) rest) ∙ ap (λ (p : List ℕ). p ++ drop (length piece) rest) (sym piece-is) ∙ ap (λ (a : List ℕ). piece ++ a) (sym after-is) in
    let got = so_far.front ++ take put.0 piece in
    let left = drop put.0 piece ++ after in
    let cut : piece ++ after ≡ take put.0 piece ++ left = ap (λ (p : List ℕ). p ++ after) (sym (take-append-drop put.0 piece)) ∙ append_assoc (take put.0 piece) (drop put.0 piece) after in
    let parts : text ≡ got ++ left = so_far.parts ∙ ap (λ (r : List ℕ). so_far.front ++ r) (whole ∙ cut) ∙ sym (append_assoc so_far.front (take put.0 piece) left) in
    let front : take (length got) text ≡ got = ap (λ (t : List ℕ). take (length got) t) parts ∙ take_at got left (length got) refl in
    (length got, subst (λ (t : List ℕ). Appends old new t) (sym front) (Appends-then old mid new so_far.front (take put.0 piece) so_far.written put.1))
