use Rattle.std.proofs.Common.{refl, sym, ◌∙◌, arith}
use Rattle.dcc_asm.proofs.KnownLaws.{known-target, known-first}
use Rattle.dcc_asm.proofs.known.is_known.Goals as goal

pub returns-in-Some : goal.returns-in-Some
returns-in-Some c = (
  λ yes. known-target c.args.op c.in-Some._target (sym c.target_of.ensures ∙ c.in-Some.is)
      (let fits = rw c.in-Some.is at c.target_of.type_inv in omega (arith, fits)),
  λ known. refl,
)

pub returns-in-None-2 : goal.returns-in-None-2
returns-in-None-2 c =
    let none = sym c.target_of.ensures ∙ c.in-None.is in (
      λ no. let f : ⊥ = cc in absurd f,
      λ known.
          let first = known-first c.args.op none known in
          let without = rw c.in-None-2.is at c.in_ok-_bytes-in-None.ensures in
          absurd (without first.0 first.1),
    )
