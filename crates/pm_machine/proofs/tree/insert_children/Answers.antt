use Rattle.std.proofs.Common.{◌≡◌, ◌∙◌, ◌+◌, ◌-◌, ◌++◌, ◌≤◌, [], length, map, take, drop, ap, ap₂, sym, arith, reverse}
use Rattle.std.proofs.lemmas.List.{append-nil, drop_all, length-append, length-drop, length-map, take_all, reverse-reverse}
use Rattle.pm_machine.specs.State.{child_at}
use Rattle.pm_machine.specs.Node.{node_of}
use Rattle.pm_run.specs.Runner.{child_of}
use Rattle.pm_machine.specs.Inside.Frames.{children_at}
use Rattle.pm_machine.proofs.TreeLemmas.{written_back, brings_children}
use Rattle.pm_machine.proofs.tree.insert_children.Goals as goal

pub returns-clause-ok : goal.returns-clause-ok
returns-clause-ok c =
    let at = c.args.at in
    let items = c.children.nodes.items in
    let shown = c.deref_mut.result.now in
    let kids = c.args.children.now.items in
    let none_left : c.children.children.items ≡ [] = drop_all 0 c.children.children.items (omega (arith, c.in_default.ensures.cases.0)) in
    let placed : c.children.invariant.placed ≡ kids =
    sym (append-nil c.children.invariant.placed) ∙ ap (λ xs. c.children.invariant.placed ++ reverse xs) (sym none_left)
    ∙ sym c.children.invariant.whole ∙ ap reverse c.reverse.ensures.items ∙ reverse-reverse kids in
    let nodes : map node_of items ≡ map node_of c.args.nodes.now.items ++ children_at c.args.depth (map child_of kids) =
    c.children.invariant.nodes
    ∙ ap₂ (λ old cs. map node_of old ++ children_at c.args.depth (map child_of cs)) c.reserve.ensures.items placed in
    let all : length items ≡ length c.args.nodes.now.items + length kids =
    let images = length-map items node_of in let whole = ap length nodes in
    let olds = length-map c.args.nodes.now.items node_of in
    let made = length-map (map child_of kids) (child_at c.args.depth) in let named = length-map kids child_of in
    omega (arith, images, whole, olds, made, named, length-append (map node_of c.args.nodes.now.items) (children_at c.args.depth (map child_of kids))) in
    let within : at ≤ length c.args.nodes.now.items = c.requires.place in
    let same : take (length shown - at) (drop at shown) ≡ drop at items =
    take_all (length shown - at) (drop at shown) (omega (arith, length-drop at shown)) ∙ ap (drop at) c.deref_mut.ensures.value in
    let count = length (drop at items) - c.len-count.result in
    let changed : c.rotate_right.new.self ≡ drop count (drop at items) ++ take count (drop at items) =
    c.rotate_right.ensures.after
    ∙ ap (λ xs. drop (length xs - c.len-count.result) xs ++ take (length xs - c.len-count.result) xs) same in
    let long : length c.rotate_right.new.self + at ≡ length items =
    omega (arith, c.rotate_right.ensures.len, ap length same, length-drop at items, within, all) in
    ap (map node_of)
    (written_back c.children.nodes.len at items shown c.rotate_right.new.self c.deref_mut.ensures.value
    (omega (arith, c.deref_mut.ensures.len, ap length c.deref_mut.ensures.value)) (omega (arith, within, all)) long)
    ∙ ap (λ xs. map node_of (take at items ++ xs)) changed
    ∙ brings_children at c.args.depth count c.args.nodes.now.items items (map child_of kids) nodes within
    (omega (arith, c.len-count.ensures, length-drop at items, within, all, length-map kids child_of))
