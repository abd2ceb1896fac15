use Rattle.std.proofs.Common.{◌≡◌, ℕ, ◌<◌, ◌≤◌, ◌++◌, length, slice_index, sym, ap, ◌∙◌, subst, arith, length-append}
use Rattle.dcc_gen.specs.Code.{pieces_code, procedures_code, exit_code, calls_of_all, code_of}
use Rattle.dcc_gen.proofs.CodeLaws.{few-pieces, pieces-alike, calls-in_range, near-entry}
use Rattle.dcc_gen.proofs.code.code.Goals as goal

pub push_pieces-requires-clause-all_near : goal.push_pieces-requires-clause-all_near
push_pieces-requires-clause-all_near c k within =
    let near = near-entry c.args.bodies.now k (omega arith) in
    subst (λ n. n < 20000) (sym (ap (λ l. slice_index l k) c.deref-2.ensures.value ∙ c.in_ok-rest.ensures.entries k within)) (omega arith)

pub returns-clause-code : goal.returns-clause-code
unfolding code_of
returns-clause-code c =
    let bodies = c.args.bodies.now in
    let entry : ℕ → ℕ = λ procedure. length (exit_code ++ procedures_code bodies procedure) in
    let ahead : ℕ → ℕ = λ procedure. slice_index c.deref-2.result.now procedure in
    let pieces = calls_of_all ++ c.args.start.now in
    let pieces_is : c.deref.result.now ≡ pieces =
    c.deref.ensures.value ∙ c.in_ok-extend_from_slice-2.ensures.items
    ∙ ap (λ l. l ++ c.args.start.now) (c.in_ok-extend_from_slice.ensures.items ∙ ap (λ l. l ++ calls_of_all) c.new-pieces.ensures.items) in
    let same : (j : ℕ) → j < 8 → ahead j ≡ entry j = λ j within. ap (λ l. slice_index l j) c.deref-2.ensures.value ∙ c.in_ok-rest.ensures.entries j within in
    let front : c.push_pieces.new.code.items ≡ pieces_code entry pieces =
    c.in_ok-push_pieces.ensures ∙ ap (λ l. l ++ pieces_code ahead c.deref.result.now) c.new-code.ensures.items
    ∙ ap (pieces_code ahead) pieces_is
    ∙ pieces-alike ahead entry pieces (calls-in_range c.args.start.now c.requires.start_in_range) same in
    c.in_ok-extend_from_slice-3.ensures.items ∙ ap (λ l. l ++ c.deref-3.result.now) front
    ∙ ap (λ l. pieces_code entry pieces ++ l) (c.deref-3.ensures.value ∙ c.in_ok-rest.ensures.code)

pub returns-clause-few : goal.returns-clause-few
unfolding code_of
returns-clause-few c =
    let bodies = c.args.bodies.now in
    let entry : ℕ → ℕ = λ procedure. length (exit_code ++ procedures_code bodies procedure) in
    let pieces = calls_of_all ++ c.args.start.now in
    let near : length (exit_code ++ procedures_code bodies 8) ≤ 1000 = near-entry bodies 8 (omega arith) in
    let whole : length c.extend_from_slice-3.new.self.items ≡ length (code_of c.args.start.now bodies) = ap length (returns-clause-code c) in
    omega (arith, near, whole, few-pieces entry pieces, length-append (pieces_code entry pieces) (exit_code ++ procedures_code bodies 8))
