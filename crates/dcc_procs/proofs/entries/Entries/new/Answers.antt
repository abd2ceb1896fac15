use Rattle.std.proofs.Common.{◌≡◌, ℕ, inl, inr, false, get_or, replicate, length, ap, ◌∙◌, arith}
use Rattle.std.proofs.lemmas.Bool.{cases_lt}
use Rattle.std.proofs.lemmas.List.{get_or-replicate, length-replicate, get_or_past}
use Rattle.dcc_procs.proofs.entries.Entries.new.Goals as goal

-- no offset is listed
none-listed : (n i : ℕ) → get_or (replicate n false) i false ≡ false
none-listed n i = elim (cases_lt i n) [
  | inl inside ↦ get_or-replicate n i false false inside
  | inr past ↦ get_or_past (replicate n false) i false (let e = length-replicate n false in omega (arith, e, past))
]

pub returns : goal.returns
returns c =
    let items : c.in_ok-vec.field-0.items ≡ replicate 65536 false =
    c.in_ok-vec.ensures.items_if_clones_equal (λ y same. same) in
    record {
      length_is = ap length items ∙ length-replicate 65536 false;
      listed = λ at. ap (λ l. get_or l at false) items ∙ none-listed 65536 at;
      order = c.new.ensures.items;
    }
