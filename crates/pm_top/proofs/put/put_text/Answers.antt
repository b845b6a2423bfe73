use Rattle.std.proofs.Common.{◌≡◌, ℕ, length, take, drop, sym, ap, ◌∙◌}
use Rattle.std.proofs.lemmas.Result.{err_from_is_err_and}
use Rattle.pm_top.proofs.Puts.{puts_on, breaks_off}
use Rattle.pm_top.proofs.put.put_text.Goals as goal

pub returns-in_err-put-clause-prefix : goal.returns-in_err-put-clause-prefix
returns-in_err-put-clause-prefix g c =
    let p = err_from_is_err_and c.from_residual.result c.from_residual.ensures.1 in
    let piece : c.split_at.result.0.now ≡ take (length c.split_at.result.0.now) c.pieces.rest.now = c.split_at.ensures.front ∙ ap (λ (n : ℕ). take n c.pieces.rest.now) (sym c.split_at.ensures.front_len) in
    let after : c.split_at.result.1.now ≡ drop (length c.split_at.result.0.now) c.pieces.rest.now = c.split_at.ensures.back ∙ ap (λ (n : ℕ). drop n c.pieces.rest.now) (sym c.split_at.ensures.front_len) in
    rw p.1 (breaks_off _ _ _ _ _ c.args.text.now c.pieces.rest.now c.split_at.result.0.now c.split_at.result.1.now c.pieces.invariant piece after c.in_err-put.ensures.prefix)

pub pieces-preserved : goal.pieces-preserved
pieces-preserved g c =
    let piece : c.split_at.result.0.now ≡ take (length c.split_at.result.0.now) c.pieces.rest.now = c.split_at.ensures.front ∙ ap (λ (n : ℕ). take n c.pieces.rest.now) (sym c.split_at.ensures.front_len) in
    let after : c.split_at.result.1.now ≡ drop (length c.split_at.result.0.now) c.pieces.rest.now = c.split_at.ensures.back ∙ ap (λ (n : ℕ). drop n c.pieces.rest.now) (sym c.split_at.ensures.front_len) in
    puts_on _ _ _ _ _ _ c.args.text.now c.pieces.rest.now c.split_at.result.0.now c.split_at.result.1.now c.pieces.invariant piece after c.in_ok-put.ensures.all c.in_ok-put.ensures.unfailed
