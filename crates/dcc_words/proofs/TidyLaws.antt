-- A graph with words for pairs that may become words is well formed, stands for the given one and stays in kind; it takes
-- the same addresses, is at most two levels deeper, and mentions temporaries alone where that one does.
use Rattle.std.proofs.Common.{◌≡◌, ℕ, ◌+◌, ◌≤◌, ◌<◌, Bool, true, false, ◌&&◌, ◌||◌, not, List, [], ◌∷◌, ◌++◌, length, map, flat_map, refl, sym, ap, ap₂, ◌∙◌, subst, arith, true≢false, eqb-true, Contains, inl, inr}
use Rattle.std.specs.Prelude.{◌==◌, All}
use Rattle.std.specs.List.{AllZip, list_all}
use Rattle.std.proofs.lemmas.Bool.{and_parts, and_from, not-true}
use Rattle.std.proofs.lemmas.List.Elements.{Contains-append_left, Contains-append_right, Contains-append_cases}
use Rattle.std.proofs.lemmas.List.Folds.{list_all-append}
use Rattle.dcc_ir.specs.declared.syntax.Loc.{Loc}
use Rattle.dcc_ir.specs.declared.syntax.Loc.TheVariants.{Temp}
use Rattle.dcc_ir.specs.declared.syntax.Put.{Put}
use Rattle.dcc_ir.specs.declared.syntax.Put.TheVariants.{Memory, One, Two}
use Rattle.dcc_ir.specs.declared.syntax.Param.{Param}
use Rattle.dcc_ir.specs.Tree.{Block, Graph}
use Rattle.dcc_ir.specs.Location.{same_location, location_width}
use Rattle.dcc_ir.specs.Joinable.{places_of}
use Rattle.dcc_ir.specs.Live.{is_among}
use Rattle.dcc_ir.specs.Measure.{deepest}
use Rattle.dcc_ir.specs.Use.{block_exprs, graph_exprs}
use Rattle.dcc_ir.specs.WellFormed.{is_width, is_location, is_put, put_width, is_memory, is_block, all_differ, IsGraph}
use Rattle.dcc_ir.proofs.LocationLaws.{among_contains, contains_among, Contains-here, Contains-cases, Contains-none}
use Rattle.dcc_flow.specs.Mentions.{block_mentions, graph_mentions}
use Rattle.dcc_passes.specs.Kinds.{ParamKind, param_kind, param_kinds, StaysInKind}
use Rattle.dcc_passes.specs.Renaming.{param_places}
use Rattle.dcc_passes.specs.Tidied.{takes_addresses, are_different, takes_apart, IsTidied}
use Rattle.dcc_passes.proofs.FollowLaws.{followed-stands}
use Rattle.dcc_webs.specs.Temporaries.{is_temp, HasTempsAlone}
use Rattle.dcc_words.specs.declared.roles.Pair.{Pair}
use Rattle.dcc_words.specs.declared.roles.Role.{Role}
use Rattle.dcc_words.specs.declared.roles.Role.TheVariants.{Alone, Low, High}
use Rattle.dcc_words.specs.Words.{role_in, is_alone, are_whole, put_as, put_in_words, param_in_words, takes_whole, MayBecomeWords, IsWithWords}
use Rattle.dcc_words.proofs.RoleLaws.{AreRoles, IsWord, widened, sixteens, roles-are}
use Rattle.dcc_words.proofs.HeldLaws.{alone-is, whole-cases}
use Rattle.dcc_words.proofs.StmtLaws.{blocks-pass, blocks-depth, blocks-temps, blocks-formed, blocks-kinds, all-jump, addresses-stay, counts-stay, offsets-stay}
use Rattle.dcc_words.proofs.FollowLaws.{words-link, words-follow}

all-sixteen : (pairs : List Pair) → list_all is_width (sixteens pairs) ≡ true
all-sixteen [] = refl
all-sixteen (pair ∷ pairs) = all-sixteen pairs

-- Params.

module _ (bits bits' : List ℕ) (role : Loc → Role) (are : AreRoles bits bits' role) where
  put-formed : (put : Put) → takes_whole role put ≡ true → is_put bits put ≡ true
      → (is_put bits' (put_in_words role put) ≡ true) × (put_width bits' (put_in_words role put) ≡ put_width bits put) × (is_memory (put_in_words role put) ≡ is_memory put)
  put-formed Memory whole is = (refl, refl, refl)
  put-formed (One x) whole is = (are.stays x is, are.width_stays x is, refl)
  put-formed (Two low high) whole is =
      let p = and_parts (is_location bits low && is_location bits high && (location_width bits low == 8)) (location_width bits high == 8) is in
      let q = and_parts (is_location bits low && is_location bits high) (location_width bits low == 8) p.0 in
      let r = and_parts (is_location bits low) (is_location bits high) q.0 in
      let Fine = λ (put : Put). (is_put bits' put ≡ true) × (put_width bits' put ≡ 16) × (is_memory put ≡ false) in
      whole-cases bits bits' role are low high (Fine (put_as (role low) low high)) whole
      (λ a b.
      subst (λ r. Fine (put_as r low high)) (sym a) (
        and_from (is_location bits' low && is_location bits' high && (location_width bits' low == 8)) (location_width bits' high == 8)
            (and_from (is_location bits' low && is_location bits' high) (location_width bits' low == 8)
            (and_from (is_location bits' low) (is_location bits' high) (are.stays low r.0) (are.stays high r.1))
            (ap (λ n. n == 8) (are.width_stays low r.0) ∙ q.1))
            (ap (λ n. n == 8) (are.width_stays high r.1) ∙ p.1),
        refl,
        refl,
      ))
      (λ word a b. subst (λ r. Fine (put_as r low high)) (sym a) ((are.low_word low word a).placed, (are.low_word low word a).wide, refl))

  params-formed : (params : List Param) → list_all (λ p. takes_whole role p.put) params ≡ true → list_all (λ p. is_put bits p.put) params ≡ true
      → list_all (λ p. is_put bits' p.put) (map (param_in_words role) params) ≡ true
  params-formed [] whole is = refl
  params-formed (p ∷ params) whole is =
      let w = and_parts (takes_whole role p.put) (list_all (λ p. takes_whole role p.put) params) whole in
      let f = and_parts (is_put bits p.put) (list_all (λ p. is_put bits p.put) params) is in
      and_from (is_put bits' (put_in_words role p.put)) (list_all (λ p. is_put bits' p.put) (map (param_in_words role) params))
      (put-formed p.put w.0 f.0).0 (params-formed params w.1 f.1)

  params-kinds : (params : List Param) → list_all (λ p. takes_whole role p.put) params ≡ true → list_all (λ p. is_put bits p.put) params ≡ true
      → map (param_kind bits') (map (param_in_words role) params) ≡ map (param_kind bits) params
  params-kinds [] whole is = refl
  params-kinds (p ∷ params) whole is =
      let w = and_parts (takes_whole role p.put) (list_all (λ p. takes_whole role p.put) params) whole in
      let f = and_parts (is_put bits p.put) (list_all (λ p. is_put bits p.put) params) is in
      let fine = put-formed p.put w.0 f.0 in
      ap₂ (λ k ks. k ∷ ks) (ap₂ (λ m n. record { stack = p.stack; memory = m; width = n }) fine.2 fine.1) (params-kinds params w.1 f.1)

  -- where what a location takes goes: the lower half's goes to the word
  abbrev went : Role → Loc → Loc
  went (Low word) l = Temp word
  went Alone l = l
  went (High word) l = l

  abbrev Here : Loc → Type 0
  Here l = is_location bits l ≡ true

  went-apart : (l m : Loc) → Here l → Here m → went (role l) l ≡ went (role m) m → l ≡ m
  went-apart l m here here' same = go (role l) (role m) refl refl same
    where
      go : (a b : Role) → role l ≡ a → role m ≡ b → went a l ≡ went b m → l ≡ m
      go (Low w) (Low w') h k same = let e : w ≡ w' = cc in are.low_one l m w' (h ∙ ap Low e) k
      go (Low w) Alone h k same = absurd ((are.low_word l w h).fresh m here' (sym same))
      go (Low w) (High w') h k same = absurd ((are.low_word l w h).fresh m here' (sym same))
      go Alone (Low w) h k same = absurd ((are.low_word m w k).fresh l here same)
      go (High w') (Low w) h k same = absurd ((are.low_word m w k).fresh l here same)
      go Alone Alone h k same = same
      go Alone (High w) h k same = same
      go (High w) Alone h k same = same
      go (High w) (High w') h k same = same

  -- a location that takes what one of the first ones took
  record Took (places : List Loc) (x : Loc) : Type 0 where
    from : Loc
    among : Contains places from
    here : Here from
    is : went (role from) from ≡ x

  more-took : (xs ys : List Loc) (x : Loc) → Took ys x → Took (xs ++ ys) x
  more-took xs ys x t = record { from = t.from; among = Contains-append_right xs ys t.from t.among; here = t.here; is = t.is }

  first-took : (xs ys : List Loc) (x : Loc) → Took xs x → Took (xs ++ ys) x
  first-took xs ys x t = record { from = t.from; among = Contains-append_left xs ys t.from t.among; here = t.here; is = t.is }

  alone-took : (places : List Loc) (x : Loc) → Contains places x → Here x → role x ≡ Alone → Took places x
  alone-took places x c here alone = record { from = x; among = c; here = here; is = ap (λ r. went r x) alone }

  two-here : (low high : Loc) → is_put bits (Two low high) ≡ true → Here low × Here high
  two-here low high is =
      let p = and_parts (is_location bits low && is_location bits high && (location_width bits low == 8)) (location_width bits high == 8) is in
      let q = and_parts (is_location bits low && is_location bits high) (location_width bits low == 8) p.0 in
      and_parts (is_location bits low) (is_location bits high) q.0

  put-took : (put : Put) → takes_whole role put ≡ true → is_put bits put ≡ true → (x : Loc) → Contains (places_of (put_in_words role put)) x → Took (places_of put) x
  put-took Memory whole is x c = absurd (Contains-none x c)
  put-took (One y) whole is x c =
      alone-took (y ∷ []) x c (subst Here (only y x c) is) (subst (λ z. role z ≡ Alone) (only y x c) (alone-is (role y) whole))
    where
      only : (y x : Loc) → Contains (y ∷ []) x → y ≡ x
      only y x c = Contains-cases y [] x (y ≡ x) (λ e. e) (λ d. absurd (Contains-none x d)) c
  put-took (Two low high) whole is x c =
      whole-cases bits bits' role are low high (Contains (places_of (put_as (role low) low high)) x → Took (low ∷ high ∷ []) x) whole
      (λ a b c.
      let d = subst (λ r. Contains (places_of (put_as r low high)) x) a c in
      Contains-cases low (high ∷ []) x (Took (low ∷ high ∷ []) x)
      (λ e. alone-took (low ∷ high ∷ []) x d (subst Here e (two-here low high is).0) (subst (λ z. role z ≡ Alone) e a))
      (λ later. Contains-cases high [] x (Took (low ∷ high ∷ []) x)
      (λ e. alone-took (low ∷ high ∷ []) x d (subst Here e (two-here low high is).1) (subst (λ z. role z ≡ Alone) e b))
      (λ none. absurd (Contains-none x none)) later) d)
      (λ word a b c.
      let d = subst (λ r. Contains (places_of (put_as r low high)) x) a c in
      record {
        from = low;
        among = Contains-here low (high ∷ []);
        here = (two-here low high is).0;
        is = ap (λ r. went r low) a ∙ Contains-cases (Temp word) [] x (Temp word ≡ x) (λ e. e) (λ none. absurd (Contains-none x none)) d;
      }) c

  abbrev after_places : List Param → List Loc
  after_places params = param_places (map (param_in_words role) params)

  -- what takes an argument over words takes what one took
  took : (params : List Param) → list_all (λ p. takes_whole role p.put) params ≡ true → list_all (λ p. is_put bits p.put) params ≡ true
      → (x : Loc) → Contains (after_places params) x → Took (param_places params) x
  took [] whole is x c = absurd (Contains-none x c)
  took (p ∷ params) whole is x c =
      let w = and_parts (takes_whole role p.put) (list_all (λ p. takes_whole role p.put) params) whole in
      let f = and_parts (is_put bits p.put) (list_all (λ p. is_put bits p.put) params) is in
      elim (Contains-append_cases (places_of (put_in_words role p.put)) (after_places params) x c) [
        | inl here ↦ first-took (places_of p.put) (param_places params) x (put-took p.put w.0 f.0 x here)
        | inr later ↦ more-took (places_of p.put) (param_places params) x (took params w.1 f.1 x later)
      ]

  -- what takes no second argument doesn't so over words
  none-after : (params : List Param) → list_all (λ p. takes_whole role p.put) params ≡ true → list_all (λ p. is_put bits p.put) params ≡ true
      → (l : Loc) → Here l → is_among (param_places params) l ≡ false → is_among (after_places params) (went (role l) l) ≡ false
  none-after params whole is l here none = by (is_among (after_places params) (went (role l) l)) refl
    where
      by : (b : Bool) → is_among (after_places params) (went (role l) l) ≡ b → b ≡ false
      by false is' = refl
      by true is' =
          let t = took params whole is (went (role l) l) (among_contains (after_places params) (went (role l) l) is') in
          let same : t.from ≡ l = went-apart t.from l t.here here t.is in
          absurd (true≢false (sym (contains_among (param_places params) l (subst (Contains (param_places params)) same t.among)) ∙ none))

  params-apart : (params : List Param) → list_all (λ p. takes_whole role p.put) params ≡ true → list_all (λ p. is_put bits p.put) params ≡ true
      → are_different (param_places params) ≡ true → are_different (after_places params) ≡ true
  params-apart [] whole is differ = refl
  params-apart (p ∷ params) whole is differ =
      let w = and_parts (takes_whole role p.put) (list_all (λ p. takes_whole role p.put) params) whole in
      let f = and_parts (is_put bits p.put) (list_all (λ p. is_put bits p.put) params) is in
      go p.put w.0 f.0 w.1 f.1 differ (params-apart params w.1 f.1)
    where
      go : (put : Put) → takes_whole role put ≡ true → is_put bits put ≡ true → list_all (λ p. takes_whole role p.put) params ≡ true
          → list_all (λ p. is_put bits p.put) params ≡ true → are_different (places_of put ++ param_places params) ≡ true
          → (are_different (param_places params) ≡ true → are_different (after_places params) ≡ true)
          → are_different (places_of (put_in_words role put) ++ after_places params) ≡ true
      go Memory whole is wholes alls differ later = later differ
      go (One x) whole is wholes alls differ later =
          let p = and_parts (not (is_among (param_places params) x)) (are_different (param_places params)) differ in
          let alone = alone-is (role x) whole in
          and_from (not (is_among (after_places params) x)) (are_different (after_places params))
          (ap not (subst (λ r. is_among (after_places params) (went r x) ≡ false) alone
          (none-after params wholes alls x is (not-true (is_among (param_places params) x) p.0)))) (later p.1)
      go (Two low high) whole is wholes alls differ later =
          let p = and_parts (not (is_among (high ∷ param_places params) low)) (are_different (high ∷ param_places params)) differ in
          let q = and_parts (not (is_among (param_places params) high)) (are_different (param_places params)) p.1 in
          let apart = or-false (same_location low high) (is_among (param_places params) low) (not-true (is_among (high ∷ param_places params) low) p.0) in
          let here = two-here low high is in
          let low-none = none-after params wholes alls low here.0 apart.1 in
          let high-none = none-after params wholes alls high here.1 (not-true (is_among (param_places params) high) q.0) in
          whole-cases bits bits' role are low high (are_different (places_of (put_as (role low) low high) ++ after_places params) ≡ true) whole
          (λ a b.
          subst (λ r. are_different (places_of (put_as r low high) ++ after_places params) ≡ true) (sym a)
          (and_from (not (is_among (high ∷ after_places params) low)) (are_different (high ∷ after_places params))
          (ap not (ap₂ (λ c d. c || d) apart.0 (subst (λ r. is_among (after_places params) (went r low) ≡ false) a low-none)))
          (and_from (not (is_among (after_places params) high)) (are_different (after_places params))
          (ap not (subst (λ r. is_among (after_places params) (went r high) ≡ false) b high-none)) (later q.1))))
          (λ word a b.
          subst (λ r. are_different (places_of (put_as r low high) ++ after_places params) ≡ true) (sym a)
          (and_from (not (is_among (after_places params) (Temp word))) (are_different (after_places params))
          (ap not (subst (λ r. is_among (after_places params) (went r low) ≡ false) a low-none)) (later q.1)))
        where
          or-false : (a b : Bool) → (a || b) ≡ false → (a ≡ false) × (b ≡ false)
          or-false true b is = absurd (true≢false is)
          or-false false b is = (refl, is)

  -- temporaries alone take arguments
  params-temps : (params : List Param) → list_all is_temp (param_places params) ≡ true → list_all is_temp (after_places params) ≡ true
  params-temps [] all = refl
  params-temps (p ∷ params) all =
      let q = and_parts (list_all is_temp (places_of p.put)) (list_all is_temp (param_places params)) (sym (list_all-append is_temp (places_of p.put) (param_places params)) ∙ all) in
      list_all-append is_temp (places_of (put_in_words role p.put)) (after_places params) ∙ ap₂ (λ a b. a && b) (go p.put q.0) (params-temps params q.1)
    where
      two : (r : Role) (low high : Loc) → list_all is_temp (low ∷ high ∷ []) ≡ true → list_all is_temp (places_of (put_as r low high)) ≡ true
      two Alone low high all = all
      two (Low word) low high all = refl
      two (High word) low high all = all

      go : (put : Put) → list_all is_temp (places_of put) ≡ true → list_all is_temp (places_of (put_in_words role put)) ≡ true
      go Memory all = refl
      go (One x) all = all
      go (Two low high) all = two (role low) low high all

-- Graphs.

module _ (pairs : List Pair) (before after : Graph) (formed : IsGraph before) (may : MayBecomeWords pairs before) (is : IsWithWords pairs before after) where
  abbrev role : Loc → Role
  role = role_in pairs before.bits

  are : AreRoles before.bits after.bits role
  are = subst (λ bits. AreRoles before.bits bits (role_in pairs before.bits)) (sym is.bits) (roles-are before.bits pairs may.halves)

  with-formed : IsGraph after
  with-formed =
      let count = counts-stay role before.blocks after.blocks is.blocks in
      record {
        begins = omega (arith, count, formed.begins);
        entry = subst (λ n. n < 65536) (sym is.entry) formed.entry;
        offsets = offsets-stay role before.blocks after.blocks is.blocks formed.offsets;
        jumps = all-jump role before.blocks after.blocks is.blocks formed.jumps;
        addresses = ap all_differ (addresses-stay role before.blocks after.blocks is.blocks) ∙ formed.addresses;
        bits =
            ap (list_all is_width) is.bits ∙ list_all-append is_width before.bits (sixteens pairs)
            ∙ ap₂ (λ a b. a && b) formed.bits (all-sixteen pairs);
        params =
            subst (λ params. list_all (λ p. is_put after.bits p.put) params ≡ true) (sym is.params)
            (params-formed before.bits after.bits role are before.params may.params formed.params);
        blocks =
            subst (λ n. list_all (is_block after.bits n) after.blocks ≡ true) (sym count)
            (blocks-formed before.bits after.bits role are (length before.blocks) before.blocks after.blocks is.blocks formed.blocks);
      }

  with-kind : StaysInKind before after
  with-kind = record {
    entry = is.entry;
    params = ap (map (param_kind after.bits)) is.params ∙ params-kinds before.bits after.bits role are before.params may.params formed.params;
    local = is.local;
    pushed = is.pushed;
    blocks = blocks-kinds before.bits after.bits role are (length before.blocks) before.blocks after.blocks is.blocks formed.blocks;
  }

  pub with-tidied : IsTidied before after
  with-tidied = record {
    formed = with-formed;
    stands = followed-stands before after (words-link before after role are) with-kind with-formed
        (words-follow before after role are formed is.params may.params may.start may.written is.blocks);
    kind = with-kind;
    addresses = λ test passes. blocks-pass role test before.blocks after.blocks is.blocks passes;
    apart = λ differ.
        subst (λ params. are_different (param_places params) ≡ true) (sym is.params)
        (params-apart before.bits after.bits role are before.params may.params formed.params differ);
  }

  pub with-depth : deepest (graph_exprs after) ≤ deepest (graph_exprs before) + 2
  with-depth = blocks-depth role (deepest (graph_exprs before)) before.blocks after.blocks is.blocks (omega arith)

  pub with-temps : HasTempsAlone before → HasTempsAlone after
  with-temps all =
      let p = and_parts (list_all is_temp (param_places before.params)) (list_all is_temp (graph_mentions before))
      (sym (list_all-append is_temp (param_places before.params) (graph_mentions before)) ∙ all) in
      list_all-append is_temp (param_places after.params) (graph_mentions after)
      ∙ ap₂ (λ a b. a && b)
      (subst (λ params. list_all is_temp (param_places params) ≡ true) (sym is.params) (params-temps before.bits after.bits role are before.params p.0))
      (blocks-temps role before.blocks after.blocks is.blocks p.1)
