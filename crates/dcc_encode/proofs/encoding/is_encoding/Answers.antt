use Rattle.std.proofs.Common.{◌≡◌, ◌+◌, ◌≤◌, length, sym, ◌∙◌, arith}
use Rattle.dcc_encode.proofs.Best.{encoding-made, encoding-op}
use Rattle.dcc_encode.proofs.encoding.is_encoding.Goals as goal

pub returns-then-from-bytes : goal.returns-then-from-bytes
returns-then-from-bytes c =
    let size : c.in-Some.instr.len ≡ length c.args.bytes.now = sym c.from-in-Some.ensures ∙ c.if-from-bytes.true in
    let found = sym c.decode_window.ensures.found ∙ c.in-Some.is in
    let within : c.args.at + length c.args.bytes.now ≤ 65536 = omega (arith, c.if-from-bytes-gt-OFFSETS.false, c.from.ensures) in (
      λ same. encoding-made c.args.cpu c.args.at c.args.op c.args.bytes.now c.in-Some.instr found size (c.is_same.ensures.0 same) within c.type_inv.bytes,
      λ is. c.is_same.ensures.1 (encoding-op c.args.cpu c.args.at c.args.op c.args.bytes.now c.in-Some.instr found is),
    )
