use Rattle.std.proofs.Common.{◌≡◌, true, sym, ◌∙◌, subst}
use Rattle.dcc_machine.specs.contracts.instr.OpPartialEq.TheImpl as op_eq
use Rattle.dcc_encode.proofs.Sameness.{op-same, op-tested}
use Rattle.dcc_encode.proofs.encoding.is_same.Goals as goal

pub returns : goal.returns
returns c =
    let told : c.eq.result ≡ (op_eq.ghosts).eq c.args.op c.args.other = c.eq.ensures in (
      λ same. op-same c.args.op c.args.other (sym told ∙ same),
      λ same. told ∙ subst (λ op. (op_eq.ghosts).eq c.args.op op ≡ true) same (op-tested c.args.op),
    )
