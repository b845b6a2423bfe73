use Rattle.std.proofs.Common.{◌+◌, ◌≤◌, ◌++◌, ◌≡◌, true, take, length, replicate, ap, ◌∙◌, arith, not, sym}
use Rattle.std.specs.Result.{is_ok}
use Rattle.std.proofs.lemmas.List.{length-take, length-drop}
use Rattle.pm_outside.proofs.Reading.{appended, lengthened, resized}
use Rattle.pm_outside.proofs.host_library.read_piece.Goals as goal

pub returns-in-Ok-clause-reads : goal.returns-in-Ok-clause-reads
returns-in-Ok-clause-reads g c =
    let old = c.args.bytes.now in
    let is_end : c.len-start.result ≡ length old.items = omega (arith, old.ok.0) in
    let made : is_ok c.resize.result ≡ true = c.is_err.ensures.negation ∙ ap not c.if-is_err.false in
    let longer : c.deref_mut.result.now ≡ old.items ++ replicate c.args.most 0 =
    c.deref_mut.ensures.value ∙ rw made at c.resize.ensures.items ∙ resized old.items _ c.args.most _ is_end (omega (arith, old.ok.0)) in
    let kept : take c.len-start.result c.deref_mut.result.now ≡ old.items = lengthened _ _ _ _ is_end longer in
    let room : length c.read.new.buf ≡ c.args.most =
    omega (arith, simp (length-take, length-drop) at c.read.auto.buf, c.deref_mut.ensures.len, rw made at c.resize.ensures.len) in
    let within : c.in-Ok.count ≤ length c.read.new.buf = c.in-Ok.ensures.bound.0 in
    let fits : c.len-start.result + c.in-Ok.count ≤ c.resize.new.self.len = omega (arith, room, rw made at c.resize.ensures.len) in
    record {
      piece = take c.in-Ok.count c.read.new.buf;
      appended = c.truncate.ensures.items ∙ appended _ _ _ _ _ _ _ _ is_end kept within fits;
      counted = sym c.in-Ok.ensures.bound.1;
      consumed = c.in-Ok.ensures.bytes.0;
      ended = λ none. c.in-Ok.ensures.bytes.1 none (omega (arith, room));
    }
