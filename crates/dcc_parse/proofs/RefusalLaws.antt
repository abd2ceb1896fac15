-- A text stands for one tree or is refused for one offence.
use native.Mathlib.Omega.{arith}
use Rattle.std.proofs.Common.{◌≡◌, ◌≤◌, ◌⊎◌, inl, inr, ℕ, suc, List, length, Option, Some, None, refl, sym, ap, ◌∙◌}
use Rattle.dcc_c.specs.Kinds.{Kind, of_version, Offence, first_of}
use Rattle.dcc_c.specs.Numbered.{rows}
use Rattle.dcc_c.specs.Pieces.{pieces_of, after_version, line_at}
use Rattle.dcc_c.specs.ReadingText.{reading_of}
use Rattle.dcc_c.specs.Refusals.{IsRefused, too_long, no_version, offends}
use Rattle.dcc_c.specs.Stripped.{plain_text}
use Rattle.dcc_c.specs.Text.{StandsFor}
use Rattle.dcc_c.specs.TextOffences.{offences_of}
use Rattle.dcc_c.specs.Tree.{Tree}
use Rattle.dcc_c.proofs.refusals.FirstRules.{first-none}
use Rattle.dcc_lex.proofs.laws.TextParsed.{parsed-stands, stands-parsed}
use Rattle.dcc_parse.specs.Laws.{HasTree, HasRefusal}
use Rattle.dcc_parse.proofs.ParseRules.{tree-parsed, no-rest, rest-same, offends-none}

-- nothing offends in the pieces after the version line
clean-stands : (text rest : List ℕ) → after_version text ≡ Some rest → first_of (offences_of (pieces_of rest)) ≡ None → HasTree text
clean-stands text rest begins none =
    let pieces = pieces_of rest in
    let tree = plain_text (reading_of pieces).value in
    let parsed = tree-parsed pieces tree (record { clean = first-none (offences_of pieces) none; same = refl }) in
    record { tree = tree; stands = parsed-stands text rest tree begins parsed }

-- there is a first offence in them, or none
begun-judged : (text rest : List ℕ) (first : Option Offence) → length text ≤ 67108864 → after_version text ≡ Some rest →
    first_of (offences_of (pieces_of rest)) ≡ first → HasTree text ⊎ HasRefusal text
begun-judged text rest None short begins is = inl (clean-stands text rest begins is)
begun-judged text rest (Some o) short begins is =
    inr (record { line = line_at (pieces_of rest) (suc (rows text)) o.at; kind = o.kind; refused = offends short begins is })

any-judged : (text : List ℕ) (following : Option (List ℕ)) → length text ≤ 67108864 → after_version text ≡ following → HasTree text ⊎ HasRefusal text
any-judged text None short is = inr (record { line = 1; kind = of_version; refused = no_version short is })
any-judged text (Some rest) short is = begun-judged text rest (first_of (offences_of (pieces_of rest))) short is refl

-- a text stands for a tree or is refused
pub text-judged : (text : List ℕ) → length text ≤ 67108864 → HasTree text ⊎ HasRefusal text
text-judged text short = any-judged text (after_version text) short refl

-- what is refused stands for no tree, but for what is too long
pub refused-no-tree : (text : List ℕ) (line : ℕ) (kind : Kind) (tree : Tree) → length text ≤ 67108864 → IsRefused text line kind → StandsFor text tree → ⊥
refused-no-tree text line kind tree short (too_long long) stands = absurd (omega (arith, long, short))
refused-no-tree text line kind tree short (no_version _ none) stands =
    let (rest, begins, parsed) = stands-parsed text tree stands in no-rest (sym none ∙ begins)
refused-no-tree text line kind tree short (offends _ begins first) stands = offends-none text _ _ tree begins first stands

some-same : {A : Type 0} {a b : A} → Some a ≡ Some b → a ≡ b
some-same is = cc

-- the first offence of a text is one, and so is its line
offence-once : (text : List ℕ) {rest other : List ℕ} {o p : Offence} → after_version text ≡ Some rest → after_version text ≡ Some other →
    first_of (offences_of (pieces_of rest)) ≡ Some o → first_of (offences_of (pieces_of other)) ≡ Some p →
    (line_at (pieces_of rest) (suc (rows text)) o.at ≡ line_at (pieces_of other) (suc (rows text)) p.at) × (o.kind ≡ p.kind)
offence-once text {rest} {other} {o} {p} begins begins_other first last =
    let same : rest ≡ other = sym (rest-same (sym begins_other ∙ begins)) in
    let alike : o ≡ p = some-same (sym first ∙ ap (λ l. first_of (offences_of (pieces_of l))) same ∙ last) in (
      ap (λ l. line_at (pieces_of l) (suc (rows text)) o.at) same
          ∙ ap (λ (x : Offence). line_at (pieces_of other) (suc (rows text)) x.at) alike,
      ap (λ (x : Offence). x.kind) alike,
    )

-- a text is refused in one line for one kind
pub refused-once : (text : List ℕ) (a b : ℕ) (k l : Kind) → IsRefused text a k → IsRefused text b l → (a ≡ b) × (k ≡ l)
refused-once text a b k l (too_long _) (too_long _) = (refl, refl)
refused-once text a b k l (too_long long) (no_version short _) = absurd (omega (arith, long, short))
refused-once text a b k l (too_long long) (offends short _ _) = absurd (omega (arith, long, short))
refused-once text a b k l (no_version short _) (too_long long) = absurd (omega (arith, long, short))
refused-once text a b k l (no_version _ _) (no_version _ _) = (refl, refl)
refused-once text a b k l (no_version _ none) (offends _ begins _) = absurd (no-rest (sym none ∙ begins))
refused-once text a b k l (offends short _ _) (too_long long) = absurd (omega (arith, long, short))
refused-once text a b k l (offends _ begins _) (no_version _ none) = absurd (no-rest (sym none ∙ begins))
refused-once text a b k l (offends _ begins first) (offends _ begins_other last) = offence-once text begins begins_other first last
