use Rattle.std.proofs.Common.{◌∷◌, subst, sym, ℕ}
use Rattle.pm_scan.specs.Lexemes.{Lexeme}
use Rattle.pm_scan.proofs.Forms.{IsFoundIn, lexeme_stands}
use Rattle.pm_scan.proofs.scan.lexeme_at.Goals as goal

pub returns-clause-within : goal.returns-clause-within
returns-clause-within c =
    let stands = subst (λ (x : Lexeme × ℕ). IsFoundIn (c.in_ok-first.first.now ∷ c.in_ok-first.rest.now) x) (sym c.lexeme_from.ensures) (lexeme_stands c.in_ok-first.first.now c.in_ok-first.rest.now) in
    rw c.in_ok-first.ensures.cases.0 (stands.some, stands.within)

pub returns-clause-form : goal.returns-clause-form
returns-clause-form c =
    let stands = subst (λ (x : Lexeme × ℕ). IsFoundIn (c.in_ok-first.first.now ∷ c.in_ok-first.rest.now) x) (sym c.lexeme_from.ensures) (lexeme_stands c.in_ok-first.first.now c.in_ok-first.rest.now) in
    stands.form
