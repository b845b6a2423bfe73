-- Symbols whose arguments were counted.
use Rattle.std.proofs.Common.{◌≡◌, ℕ, zero, suc, ◌<◌, ◌≤◌, List, [], ◌∷◌, map, length, get_or, set, refl, ap, ◌∙◌, arith}
use Rattle.pm_cnf.specs.declared.item.Node as node
use Rattle.pm_cnf.specs.Inside.Draft.{with_arity, set_arity}
use Rattle.pm_cnf.specs.Inside.Parsed.{node_of}

-- the node at the place was given its arity
pub arity_set : (place n : ℕ) (nodes : List node.Node) (x y : node.Node) → place < length nodes → ((d : node.Node) → x ≡ get_or nodes place d)
    → node_of y ≡ with_arity n (node_of x) → map node_of (set nodes place y) ≡ set_arity place n (map node_of nodes)
arity_set place n [] x y within is e = absurd (omega (arith, within))
arity_set zero n (z ∷ nodes) x y within is e = ap (λ m. m ∷ map node_of nodes) (e ∙ ap (λ m. with_arity n (node_of m)) (is x))
arity_set (suc place) n (z ∷ nodes) x y within is e = ap (λ ms. node_of z ∷ ms) (arity_set place n nodes x y (omega (arith, within)) is e)

-- there is no node at the place
pub arity_beyond : (place n : ℕ) (nodes : List node.Node) → length nodes ≤ place → map node_of nodes ≡ set_arity place n (map node_of nodes)
arity_beyond place n [] beyond = refl
arity_beyond zero n (z ∷ nodes) beyond = absurd (omega (arith, beyond))
arity_beyond (suc place) n (z ∷ nodes) beyond = ap (λ ms. node_of z ∷ ms) (arity_beyond place n nodes (omega (arith, beyond)))
