use Rattle.std.proofs.Common.{◌≡◌, ℕ, ◌+◌, ◌<◌, List, [], ◌∷◌, ◌++◌, length, slice_index, sym, ap, ◌∙◌, arith, append_assoc, below_more}
use Rattle.std.proofs.lemmas.List.{get_or_append_left, get_or_push}
use Rattle.dcc_gen.specs.Code.{procedures_code, procedure_code, body_of, exit_code}
use Rattle.dcc_gen.proofs.CodeLaws.{procedures-more}
use Rattle.dcc_gen.proofs.code.rest.Goals as goal

-- one entry more
entries-more : (number : ℕ → ℕ) (entries next : List ℕ) (i : ℕ) → length entries ≡ i → next ≡ entries ++ number i ∷ [] →
    ((k : ℕ) → k < i → slice_index entries k ≡ number k) → (k : ℕ) → k < i + 1 → slice_index next k ≡ number k
entries-more number entries next i many is before =
    below_more (λ k. slice_index next k ≡ number k) i
    (λ k within. ap (λ l. slice_index l k) is
    ∙ get_or_append_left entries (number i ∷ []) 0 k (omega arith) ∙ before k within)
    (ap (λ l. slice_index l i) is ∙ get_or_push entries (number i) 0 i many)

pub loop-procedure-init : goal.loop-procedure-init
unfolding procedures_code
loop-procedure-init c = record {
  code = c.in_ok-extend_from_slice.ensures.items ∙ ap (λ l. l ++ exit_code) c.new-code.ensures.items;
  count = omega (arith, c.new-entries.ensures.len);
  entries = λ k within. absurd (omega arith);
}

pub loop-procedure-preserved : goal.loop-procedure-preserved
loop-procedure-preserved c =
    let bodies = c.args.bodies.now in
    let j = c.loop-procedure.procedure in
    let code = c.loop-procedure.invariant.code in
    let entry : ℕ → ℕ = λ k. length (exit_code ++ procedures_code bodies k) in
    let last = procedure_code (body_of bodies j) in
    record {
      code = c.in_ok-push_procedure.ensures ∙ ap (λ l. l ++ last) code ∙ append_assoc exit_code (procedures_code bodies j) last
          ∙ ap (λ l. exit_code ++ l) (sym (procedures-more bodies j));
      count = omega (arith, c.in_ok-push.ensures.len);
      entries = entries-more entry c.loop-procedure.entries.items c.push.new.self.items j (omega (arith, c.loop-procedure.entries.ok.0))
          (c.in_ok-push.ensures.items ∙ ap (λ n. c.loop-procedure.entries.items ++ n ∷ []) (c.len.ensures ∙ c.loop-procedure.code.ok.0 ∙ ap length code))
          c.loop-procedure.invariant.entries;
    }
