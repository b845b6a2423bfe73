use Rattle.std.proofs.Common.{◌≡◌, ◌∙◌, ◌-◌, ℕ, List, Bor, Option, None, take, drop, length, ap, subst}
use Rattle.std.specs.Option.{option_map}
use Rattle.pm_certread.specs.declared.node_line.Front.{Front}
use Rattle.pm_certread.specs.Inside.Cuts.{bytes_of, ReadsNumbers}
use Rattle.pm_certread.specs.Inside.Nodes.{ReadsFront}
use Rattle.pm_certread.proofs.NodeLemmas.{AreParts, parts_of}
use Rattle.pm_certread.proofs.node_line.node_words.Goals as goal

cut : (words front rest args ending : List (Bor (List ℕ))) → front ≡ take 3 words → rest ≡ drop 3 words → args ≡ take (length rest - 2) rest → ending ≡ drop (length rest - 2) rest
    → AreParts words front args ending
cut words front rest args ending front_is rest_is args_are ending_is = record {
  front_is = front_is;
  args_are = args_are ∙ ap (λ (r : List (Bor (List ℕ))). take (length r - 2) r) rest_is;
  ending_is = ending_is ∙ ap (λ (r : List (Bor (List ℕ))). drop (length r - 2) r) rest_is;
}

no_front : (words : List (List ℕ)) (o : Option Front) → ReadsFront words o → o ≡ None → ReadsFront words None
no_front words o h is = subst (ReadsFront words) is h

no_numbers : {V : Type 0} (f : V → List ℕ) (words : List (List ℕ)) (o : Option V) → ReadsNumbers words (option_map f o) → o ≡ None → ReadsNumbers words None
no_numbers {V} f words o h is = subst (λ (p : Option V). ReadsNumbers words (option_map f p)) is h

pub returns-in_default : goal.returns-in_default
returns-in_default c node are =
    let parts = parts_of c.args.words.now c.split_at.result.0.now c.split_at-2.result.0.now c.split_at-2.result.1.now node
    (cut c.args.words.now c.split_at.result.0.now c.split_at.result.1.now c.split_at-2.result.0.now c.split_at-2.result.1.now c.split_at.ensures.front c.split_at.ensures.back c.split_at-2.ensures.front c.split_at-2.ensures.back) are in
    c.in_default.ensures node.ending are.small_ending parts.ending_is

pub returns-in_default-2 : goal.returns-in_default-2
returns-in_default-2 c node are =
    let parts = parts_of c.args.words.now c.split_at.result.0.now c.split_at-2.result.0.now c.split_at-2.result.1.now node
    (cut c.args.words.now c.split_at.result.0.now c.split_at.result.1.now c.split_at-2.result.0.now c.split_at-2.result.1.now c.split_at.ensures.front c.split_at.ensures.back c.split_at-2.ensures.front c.split_at-2.ensures.back) are in
    no_front (bytes_of c.split_at.result.0.now) c.in_ok-front.field-0 c.in_ok-front.ensures c.in_default-2.is node.depth node.positive node.symbol.kind node.symbol.text are.small_depth are.named parts.front_is

pub returns-in_default-3 : goal.returns-in_default-3
returns-in_default-3 c node are =
    let parts = parts_of c.args.words.now c.split_at.result.0.now c.split_at-2.result.0.now c.split_at-2.result.1.now node
    (cut c.args.words.now c.split_at.result.0.now c.split_at.result.1.now c.split_at-2.result.0.now c.split_at-2.result.1.now c.split_at.ensures.front c.split_at.ensures.back c.split_at-2.ensures.front c.split_at-2.ensures.back) are in
    no_numbers (λ ns. ns.items) (bytes_of c.split_at-2.result.0.now) c.in_ok-numbers.field-0 c.in_ok-numbers.ensures c.in_default-3.is node.numbers are.small_numbers parts.args_are
