use Rattle.std.proofs.Common.{List, sym, ap, subst, ◌∙◌}
use Rattle.std.specs.Prelude.{All, map}
use Rattle.pm_logic.specs.Table.{variable_count}
use Rattle.pm_logic.specs.Lists.{Gathers}
use Rattle.pm_cnf.specs.declared.number.Part.{Part}
use Rattle.pm_cnf.specs.Inside.Parsed.{node_of}
use Rattle.pm_cnf.specs.Inside.Parts.{IsArgument, AreWellFormed, applications_of, trees_of, tables}
use Rattle.pm_cnf.proofs.parts.Tabling.{AreParts}
use Rattle.pm_cnf.proofs.parts.Literals.{arguments_are, arguments_whole, arguments_terms, arguments_grow}
use Rattle.pm_cnf.proofs.number.Numbering.arguments.Goals as goal

pub parts-requires-clause-args : goal.parts-requires-clause-args
parts-requires-clause-args c = subst (All IsArgument) (sym c.requires.args.1) (arguments_are c.requires.args.0)

pub build-requires : goal.build-requires
build-requires c =
    let parts : AreParts (tables c.args.self.now.symbols c.args.self.now.terms c.args.texts.now.keys) (map node_of c.args.nodes.now) (tables c.parts.new.self.symbols c.parts.new.self.terms c.parts.new.texts.keys) c.in_ok-parts.parts.items =
    record { grows = c.in_ok-parts.ensures.grows; pairs = c.in_ok-parts.ensures.parts } in
    subst (AreWellFormed (variable_count c.parts.new.self.terms)) (sym c.deref.ensures.value) (arguments_whole _ _ _ _ c.requires.args.0 c.requires.args.1 parts)

pub returns-clause-grows : goal.returns-clause-grows
returns-clause-grows c =
    let parts : AreParts (tables c.args.self.now.symbols c.args.self.now.terms c.args.texts.now.keys) (map node_of c.args.nodes.now) (tables c.parts.new.self.symbols c.parts.new.self.terms c.parts.new.texts.keys) c.in_ok-parts.parts.items =
    record { grows = c.in_ok-parts.ensures.grows; pairs = c.in_ok-parts.ensures.parts } in
    arguments_grow _ _ _ _ _ c.in_ok-rows.rows.items c.requires.args.0 parts (c.in_ok-rows.ensures.trees ∙ ap trees_of c.deref.ensures.value) c.requires.args.1
    (subst (λ (ps : List Part). Gathers c.parts.new.self.terms (applications_of ps) c.build.new.self) c.deref.ensures.value c.in_ok-rows.ensures.gathers)

pub returns-clause-terms : goal.returns-clause-terms
returns-clause-terms c = λ args is.
    let parts : AreParts (tables c.args.self.now.symbols c.args.self.now.terms c.args.texts.now.keys) (map node_of c.args.nodes.now) (tables c.parts.new.self.symbols c.parts.new.self.terms c.parts.new.texts.keys) c.in_ok-parts.parts.items =
    record { grows = c.in_ok-parts.ensures.grows; pairs = c.in_ok-parts.ensures.parts } in
    arguments_terms _ _ _ _ _ c.in_ok-rows.rows.items args parts (c.in_ok-rows.ensures.trees ∙ ap trees_of c.deref.ensures.value) is
