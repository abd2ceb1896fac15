use Rattle.std.proofs.Common.{◌≡◌, ℕ, Bool, List, ◌++◌, length, take, drop, eqb, sym, ap, ◌∙◌, take-append-drop}
use Rattle.std.specs.Bool.{Decides}
use Rattle.std.specs.List.{starts_with}
use Rattle.std.proofs.lemmas.Slice.Eq.{bytes_eq-Decides}
use Rattle.std.proofs.Math.Seq.{take-append_seam}
use Rattle.dcc_run.specs.Prefix.{IsPrefix}
use Rattle.dcc_trial.proofs.telling.begins_with.Goals as goal

-- what it is that a list begins with another
prefix-decides : (bytes front : List ℕ) (r : Bool) → r ≡ starts_with eqb bytes front → Decides r (IsPrefix front bytes)
prefix-decides bytes front r is =
    let n = length front in
    let same = bytes_eq-Decides front (take n bytes) in (
      λ yes. record {
        rest = drop n bytes;
        joins = sym (take-append-drop n bytes) ∙ ap (λ l. l ++ drop n bytes) (sym (same.0 (sym is ∙ yes)));
      },
      λ prefix. is ∙ same.1 (sym (ap (take n) prefix.joins ∙ take-append_seam front prefix.rest)),
    )

pub returns : goal.returns
returns c = prefix-decides c.args.bytes.now c.args.front.now c.starts_with.result c.starts_with.ensures.value
