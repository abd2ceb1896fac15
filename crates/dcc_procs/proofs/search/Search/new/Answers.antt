use Rattle.std.proofs.Common.{◌≡◌, replicate, length, Option, Some, None, refl, ap, ◌∙◌}
use Rattle.std.proofs.lemmas.List.{length-replicate}
use Rattle.dcc_procs.specs.declared.known.Known.{Known}
use Rattle.dcc_procs.specs.Search.{seen_at}
use Rattle.dcc_procs.proofs.Fresh.{none-at}
use Rattle.dcc_procs.proofs.search.Search.new.Goals as goal

-- a copy of nothing is nothing
copied : (R : Option Known → Type 0) → ((k : Known) → R (Some k) → ⊥) → (y : Option Known) → R y → y ≡ None
copied R none None same = refl
copied R none (Some k) same = absurd (none k same)

abbrev nothing_known : Option Known
nothing_known = None

pub returns : goal.returns
returns c =
    let items : c.in_ok-vec.field-0.items ≡ replicate 65536 None =
    c.in_ok-vec.ensures.items_if_clones_equal (copied _ (λ k other. other)) in
    record {
      length_is = ap length items ∙ length-replicate 65536 nothing_known;
      none = λ at. ap (λ seen. seen_at seen at) items ∙ none-at 65536 at;
      order = c.new.ensures.items;
      pending = c.new-2.ensures.items;
    }
