-- Writing bytes turn by turn.
use Rattle.std.proofs.Common.{◌≡◌, ℕ, List, ◌++◌, ◌-◌, length, take, drop, Option, Some, None, sym, ap, subst, ◌∙◌, append_assoc, arith}
use Rattle.std.specs.Io.KnownBytes.{Appends, Keeps}
use Rattle.std.proofs.lemmas.List.{length-drop, take-append-drop, take_all}
use Rattle.std.proofs.Math.Seq.{take-append_seam}

-- the bytes are those that were written and those that are left
pub record HasWritten (old new : Option (List ℕ)) (bytes rest : List ℕ) : Type 0 where
  pub front : List ℕ
  pub parts : bytes ≡ front ++ rest
  pub written : Appends old new front

Appends-then : (old mid new : Option (List ℕ)) (a b : List ℕ) → Appends old mid a → Appends mid new b → Appends old new (a ++ b)
Appends-then None mid new a b first second = tt
Appends-then (Some xs) None new a b first second = absurd first
Appends-then (Some xs) (Some ys) None a b first second = absurd second
Appends-then (Some xs) (Some ys) (Some zs) a b first second =
    second ∙ ap (λ (l : List ℕ). l ++ b) first ∙ append_assoc xs a b

Appends-keeps : (old mid new : Option (List ℕ)) (a : List ℕ) → Appends old mid a → Keeps mid new → Appends old new a
Appends-keeps None mid new a first kept = tt
Appends-keeps (Some xs) None new a first kept = absurd first
Appends-keeps (Some xs) (Some ys) None a first kept = absurd kept
Appends-keeps (Some xs) (Some ys) (Some zs) a first kept = kept ∙ first

-- a turn that wrote so many of the bytes that were left
pub writes_on : (old mid new : Option (List ℕ)) (bytes rest : List ℕ) (count : ℕ) → HasWritten old mid bytes rest → Appends mid new (take count rest)
    → HasWritten old new bytes (take (length rest - count) (drop count rest))
writes_on old mid new bytes rest count so_far turn =
    let left = take (length rest - count) (drop count rest) in
    let all : left ≡ drop count rest = take_all (length rest - count) (drop count rest) (omega (arith, length-drop count rest)) in
    let split : take count rest ++ left ≡ rest = ap (λ (l : List ℕ). take count rest ++ l) all ∙ take-append-drop count rest in
    record {
      front = so_far.front ++ take count rest;
      parts = so_far.parts ∙ ap (λ (l : List ℕ). so_far.front ++ l) (sym split) ∙ sym (append_assoc so_far.front (take count rest) left);
      written = Appends-then old mid new so_far.front (take count rest) so_far.written turn;
    }

-- a turn that failed
pub keeps_on : (old mid new : Option (List ℕ)) (bytes rest : List ℕ) → HasWritten old mid bytes rest → Keeps mid new → HasWritten old new bytes rest
keeps_on old mid new bytes rest so_far kept =
    record { front = so_far.front; parts = so_far.parts; written = Appends-keeps old mid new so_far.front so_far.written kept }

-- what was written is a prefix
pub prefix_of : (old new : Option (List ℕ)) (bytes rest : List ℕ) → HasWritten old new bytes rest → (n : ℕ) × Appends old new (take n bytes)
prefix_of old new bytes rest so_far =
    (length so_far.front, subst (Appends old new) (sym (ap (take (length so_far.front)) so_far.parts ∙ take-append_seam so_far.front rest)) so_far.written)
