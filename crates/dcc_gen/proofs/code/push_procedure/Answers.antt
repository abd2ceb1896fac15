use Rattle.std.proofs.Common.{◌≡◌, ℕ, List, ◌++◌, Result, Ok, Err, OnOk, is_ok, if◌then◌else◌, slice_index, replicate, ap, ◌∙◌, append_assoc}
use Rattle.std.proofs.lemmas.List.{get_or-replicate}
use Rattle.dcc_gen.specs.Code.{pieces_code, entry_code, return_code}
use Rattle.dcc_gen.proofs.CodeLaws.{pieces-alike}
use Rattle.dcc_gen.proofs.code.push_procedure.Goals as goal

-- what is appended last stands behind the rest
last-on_ok : {T E : Type 0} (r : Result T E) (old mid new first second last : List ℕ) →
    mid ≡ (old ++ first) ++ second → new ≡ (if is_ok r then mid ++ last else mid) → OnOk r (new ≡ old ++ (first ++ (second ++ last)))
last-on_ok (Ok t) old mid new first second last before after =
    after ∙ ap (λ l. l ++ last) before ∙ append_assoc (old ++ first) second last ∙ append_assoc old first (second ++ last)
last-on_ok (Err e) old mid new first second last before after = tt

pub returns : goal.returns
returns c =
    let body = c.args.body.now in
    let none : ℕ → ℕ = λ procedure. 0 in
    let ahead : ℕ → ℕ = λ procedure. slice_index (replicate 8 0) procedure in
    let old = c.args.code.now.items in
    last-on_ok c.extend_from_slice-2.result old _ _ entry_code (pieces_code none body) return_code
    (c.in_ok-push_pieces.ensures ∙ ap (λ l. l ++ pieces_code ahead body) c.in_ok-extend_from_slice.ensures.items
    ∙ ap (λ l. (old ++ entry_code) ++ l)
    (pieces-alike ahead none body c.requires.in_range (λ j within. get_or-replicate 8 j 0 0 within)))
    c.extend_from_slice-2.ensures.items
