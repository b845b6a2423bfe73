use Rattle.std.proofs.Common.{inl, inr, false, []}
use Rattle.pm_cnf.specs.declared.item.Node.TheVariants as nodes
use Rattle.pm_cnf.specs.declared.item.Word.TheVariants as words
use Rattle.pm_cnf.specs.declared.item.Node as code
use Rattle.pm_cnf.specs.Inside.Parsed.{word_of}
use Rattle.pm_cnf.proofs.parts.Tabling.{parts_variable, parts_function}
use Rattle.pm_cnf.proofs.parts.CodeNodes.{node_more, function_printable, node_argument, room}
use Rattle.pm_cnf.proofs.number.Numbering.parts.Goals as goal
use Rattle.pm_cnf.proofs.number.Numbering.parts.Goals.{in-Variable+in_ok-number-in-Variable+in_ok-add_variable-in-Variable+in_ok-push-in-Variable, in-Function+in_ok-symbol-in-Function+in_ok-push-in-Function, in-Predicate}

abbrev past : code.Node
past = nodes.Predicate false (words.Bare (record { ref_ptr = (0, 0); now = [] })) 0

pub number_word-requires-clause-few : goal.number_word-requires-clause-few
number_word-requires-clause-few c = room _ _ c.args.nodes.now c.nodes.node-index _ c.nodes-test.true c.requires.few c.nodes.invariant

pub number_word-requires-clause-printable : goal.number_word-requires-clause-printable
number_word-requires-clause-printable c = function_printable c.args.nodes.now c.nodes.node-index past c.in-Function.word c.in-Function.arity c.nodes-test.true c.in-Function.is c.requires.printable

pub nodes-preserved : goal.nodes-preserved
nodes-preserved c =
    elim c.match-node.branch [
      | in-Variable+in_ok-number-in-Variable+in_ok-add_variable-in-Variable+in_ok-push-in-Variable w ↦
          let more = node_more c.args.nodes.now c.nodes.node-index past (nodes.Variable w.in-Variable.text) c.nodes-test.true w.in-Variable.is in
          rw (w.self-is, w.texts-is, w.parts-is)
          (parts_variable _ _ _ c.nodes.self.symbols c.nodes.self.terms w.add_variable.new.self _ _ c.nodes.parts.items w.push.new.self.items w.in-Variable.text.now w.in_ok-number-in-Variable.number more
          w.in_ok-push-in-Variable.ensures.items w.in_ok-number-in-Variable.ensures.texts w.in_ok-number-in-Variable.ensures.number w.in_ok-add_variable-in-Variable.ensures.gathers w.in_ok-add_variable-in-Variable.ensures.there c.nodes.invariant)
      | in-Function+in_ok-symbol-in-Function+in_ok-push-in-Function w ↦
          let more = node_more c.args.nodes.now c.nodes.node-index past (nodes.Function w.in-Function.word w.in-Function.arity) c.nodes-test.true w.in-Function.is in
          rw (w.self-is, w.texts-is, w.parts-is)
          (parts_function _ _ _ c.nodes.self.symbols w.number_word.new.symbols c.nodes.self.terms _ c.nodes.parts.items w.push-in-Function.new.self.items (word_of w.in-Function.word) w.in_ok-symbol-in-Function.symbol w.in-Function.arity
          more w.in_ok-push-in-Function.ensures.items w.in_ok-symbol-in-Function.ensures c.nodes.invariant)
      | in-Predicate w ↦ elim w.in-Predicate.is [
        | inl is ↦ absurd (let argument = node_argument c.args.nodes.now c.nodes.node-index past (nodes.Predicate is.0 is.1 is.2) c.nodes-test.true is.3 c.requires.args in cc)
        | inr is ↦ absurd (let argument = node_argument c.args.nodes.now c.nodes.node-index past (nodes.Constant is.0 is.1) c.nodes-test.true is.2 c.requires.args in cc)
      ]
    ]
