use Rattle.std.proofs.Common.{inl, inr, refl, arith}
use Rattle.pm_cnf.specs.declared.item.Node.TheVariants as nodes
use Rattle.pm_cnf.specs.Inside.Parts.{tables}
use Rattle.pm_cnf.proofs.parts.NextNodes.{NextNodes, next_nodes, predicate_printable, next_printable, arguments_there, arguments_few, room_left, kept_step, constant_step, no_argument_step, end_step}
use Rattle.pm_cnf.proofs.number.Numbering.literals.Goals as goal

pub number_word-requires-clause-few : goal.number_word-requires-clause-few
number_word-requires-clause-few c =
    let n : NextNodes c.args.nodes.now c.literals.next c.arguments_len-len.result c.in-Some.head.now = next_nodes _ _ _ _ c.in-Some.ensures.lookup.0 c.in-Some.ensures.lookup.1 c.arguments_len-len.ensures.len c.arguments_len-len.ensures.within in
    let left = room_left (tables c.args.self.now.symbols c.args.self.now.terms c.args.texts.now.keys) (tables c.literals.self.symbols c.literals.self.terms c.literals.texts.keys) c.args.nodes.now c.literals.next c.literals.literals.items c.requires.literals c.literals.invariant.literals in
    omega (arith, n.within, left, c.requires.few)

pub number_word-requires-clause-printable : goal.number_word-requires-clause-printable
number_word-requires-clause-printable c =
    let n : NextNodes c.args.nodes.now c.literals.next c.arguments_len-len.result c.in-Some.head.now = next_nodes _ _ _ _ c.in-Some.ensures.lookup.0 c.in-Some.ensures.lookup.1 c.arguments_len-len.ensures.len c.arguments_len-len.ensures.within in
    predicate_printable _ _ _ _ c.in-Predicate.positive c.in-Predicate.word c.in-Predicate.arity n c.in-Predicate.is c.requires.printable

pub arguments-requires-clause-args : goal.arguments-requires-clause-args
arguments-requires-clause-args c =
    let n : NextNodes c.args.nodes.now c.literals.next c.arguments_len-len.result c.in-Some.head.now = next_nodes _ _ _ _ c.in-Some.ensures.lookup.0 c.in-Some.ensures.lookup.1 c.arguments_len-len.ensures.len c.arguments_len-len.ensures.within in
    arguments_there _ _ _ _ _ _ _ c.in-Predicate.positive c.in-Predicate.word c.in-Predicate.arity n c.in-Predicate.is c.requires.literals c.literals.invariant.literals

pub arguments-requires-clause-few : goal.arguments-requires-clause-few
arguments-requires-clause-few c =
    let n : NextNodes c.args.nodes.now c.literals.next c.arguments_len-len.result c.in-Some.head.now = next_nodes _ _ _ _ c.in-Some.ensures.lookup.0 c.in-Some.ensures.lookup.1 c.arguments_len-len.ensures.len c.arguments_len-len.ensures.within in
    arguments_few (tables c.args.self.now.symbols c.args.self.now.terms c.args.texts.now.keys) (tables c.literals.self.symbols c.literals.self.terms c.literals.texts.keys) _ _ _ _ c.literals.literals.items _ _
    c.in_ok-predicate-in-Predicate.predicate _ n c.in_ok-predicate-in-Predicate.ensures c.requires.literals c.literals.invariant.literals c.requires.few

pub arguments-requires-clause-printable : goal.arguments-requires-clause-printable
arguments-requires-clause-printable c =
    let n : NextNodes c.args.nodes.now c.literals.next c.arguments_len-len.result c.in-Some.head.now = next_nodes _ _ _ _ c.in-Some.ensures.lookup.0 c.in-Some.ensures.lookup.1 c.arguments_len-len.ensures.len c.arguments_len-len.ensures.within in
    next_printable _ _ _ _ n c.requires.printable

pub literals-preserved : goal.literals-preserved
literals-preserved c =
    let n : NextNodes c.args.nodes.now c.literals.next c.arguments_len-len.result c.in-Some.head.now = next_nodes _ _ _ _ c.in-Some.ensures.lookup.0 c.in-Some.ensures.lookup.1 c.arguments_len-len.ensures.len c.arguments_len-len.ensures.within in
    record {
      within = n.within;
      literals = kept_step _ _ (tables c.number_word.new.symbols c.literals.self.terms c.literals.texts.keys) _ _ _ _ _ _ _ c.in-Predicate.positive c.in-Predicate.word c.in-Predicate.arity c.in_ok-predicate-in-Predicate.predicate _ n c.in-Predicate.is refl
          c.in_ok-predicate-in-Predicate.ensures refl refl c.in_ok-push-in-Predicate.ensures.items c.in_ok-args-in-Predicate.ensures.grows c.in_ok-args-in-Predicate.ensures.terms c.in_ok-args-in-Predicate.ensures.rows
          c.requires.literals c.literals.invariant.literals;
    }

pub literals-preserved-in-Constant : goal.literals-preserved-in-Constant
literals-preserved-in-Constant c =
    let n : NextNodes c.args.nodes.now c.literals.next c.arguments_len-len.result c.in-Some.head.now = next_nodes _ _ _ _ c.in-Some.ensures.lookup.0 c.in-Some.ensures.lookup.1 c.arguments_len-len.ensures.len c.arguments_len-len.ensures.within in
    elim c.in-Constant.is [
      | inl is ↦ record { within = n.within; literals = constant_step _ _ _ _ _ _ _ is.0 is.1 n is.2 c.literals.invariant.literals }
      | inr other ↦ elim other [
        | inl is ↦ absurd (no_argument_step _ _ _ _ _ _ (nodes.Function is.0 is.1) _ n is.2 refl c.requires.literals c.literals.invariant.literals)
        | inr is ↦ absurd (no_argument_step _ _ _ _ _ _ (nodes.Variable is.0) _ n is.1 refl c.requires.literals c.literals.invariant.literals)
      ]
    ]

pub returns-clause-numbered : goal.returns-clause-numbered
returns-clause-numbered c = λ given is. end_step _ _ _ c.literals.next _ given c.in_default.ensures.lookup.3 is c.literals.invariant.literals
