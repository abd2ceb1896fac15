-- The arguments of a call in the text hold the numbers of the program's run.
use Rattle.std.proofs.Common.{◌≡◌, ℕ, ◌+◌, ◌^◌, true, false, List, [], ◌∷◌, map, refl, sym, ap, ◌∙◌, subst, true≢false}
use Rattle.std.specs.Prelude.{All}
use Rattle.std.specs.List.{list_all}
use Rattle.std.proofs.lemmas.Bool.{and_parts}
use Rattle.std.proofs.lemmas.Nat.{mod_below, pow_pos}
use Rattle.std.proofs.lemmas.List.Elements.{All-head, All-tail}
use Rattle.dcc_ir.specs.declared.syntax.Loc.{Loc}
use Rattle.dcc_ir.specs.declared.syntax.Param.{Param}
use Rattle.dcc_ir.specs.Tree as inner
use Rattle.dcc_ir.specs.Run as inner_run
use Rattle.dcc_ir.specs.Value.{width_of, Fits}
use Rattle.dcc_ir.specs.WellFormed.{is_expr, put_width}
use Rattle.dcc_c.specs.Run as text_run
use Rattle.dcc_c.specs.Run.{arguments_of}
use Rattle.dcc_c.specs.Tree.{Tree}
use Rattle.dcc_c.specs.Types.{bits_of, extended_bits, number_of_type, plain}
use Rattle.dcc_c.specs.Value.{Value, value, converted, Gives, and_then, Scope}
use Rattle.dcc_text.specs.Holding.{Locations, Alike, IsSpelling, Holds, IsWithin}
use Rattle.dcc_text.specs.Meaning.{is_type_for}
use Rattle.dcc_text.specs.Spelled.{Low, unsigned_type, text}
use Rattle.dcc_text.specs.Spelling.{Spelling}
use Rattle.dcc_text.proofs.Sizes.{Size, bit, byte, word, long, bits}
use Rattle.dcc_text.proofs.StmtSteps.{IsTaken, is-taken, scope_here, stands-here, value-here}
use Rattle.dcc_variables.specs.Functions.{parameters_from}
use Rattle.dcc_plan.proofs.Bindings.{AreArguments}

size-typed : (size : Size) → is_type_for (bits size) (plain (unsigned_type (bits size))) ≡ true
size-typed bit = refl
size-typed byte = refl
size-typed word = refl
size-typed long = refl

module _ (s : Spelling) (whole : Tree) (Has : Locations) (AreAlike : Alike) (at : ℕ) (i : inner_run.State) (t : text_run.State)
    (spelling : IsSpelling s) (fits : Fits (inner_run.scene_of i)) (before : (l : Loc) → Has l → s.named l ≡ true) (h : Holds s Has AreAlike i t) where
  abbrev here : Scope
  here = scope_here s whole Has Has AreAlike at i t spelling fits before h

  -- what an expression's text gives, as a number of the unsigned type of its width
  pub record Given (width : ℕ) (e : inner.Expr) : Type 0 where
    pub taken : IsTaken here width false (inner_run.value_in i e) (plain (unsigned_type width)) (text s Low false e)

  pub gives : (e : inner.Expr) (width : ℕ) → is_expr s.bits e ≡ true → IsWithin s Has e → width_of s.bits e ≡ width → Given width e
  gives e width formed within is =
      let x = stands-here s whole Has Has AreAlike at i t spelling fits before h e formed within in
      subst (λ w. Given w e) (sym x.width ∙ is) (record {
        taken = subst (λ n. IsTaken here (bits x.size) false n (plain (unsigned_type (bits x.size))) (text s Low false e))
            (value-here s whole Has Has AreAlike at i t spelling fits before h e)
            (is-taken here Low x.size false _ _ (x.gives Low false) (λ settled one. absurd (true≢false (sym settled))) (unsigned_type (bits x.size)) false (size-typed x.size));
      })

  -- Each argument.

  pub record Arguments (bits_there : List ℕ) (j : ℕ) (params : List Param) (es : List inner.Expr) : Type 0 where
    pub values : List Value
    pub given : arguments_of here (map (λ v. v.type) (parameters_from bits_there j params)) (map (text s Low false) es) ≡ Gives values
    pub are : AreArguments bits_there params values (map (inner_run.value_in i) es)

  pub arguments-are : (bits_there : List ℕ) (j : ℕ) (params : List Param) (es : List inner.Expr) → list_all (is_expr s.bits) es ≡ true
      → map (width_of s.bits) es ≡ map (λ p. put_width bits_there p.put) params → All (IsWithin s Has) es → Arguments bits_there j params es
  arguments-are bits_there j [] [] formed widths within = record { values = []; given = refl; are = tt }
  arguments-are bits_there j [] (e ∷ es) formed widths within = absurd cc
  arguments-are bits_there j (p ∷ params) [] formed widths within = absurd cc
  arguments-are bits_there j (p ∷ params) (e ∷ es) formed widths within =
      let (first, others) = and_parts (is_expr s.bits e) (list_all (is_expr s.bits) es) formed in
      let width : width_of s.bits e ≡ put_width bits_there p.put = cc in
      let later : map (width_of s.bits) es ≡ map (λ (q : Param). put_width bits_there q.put) params = cc in
      let rest = arguments-are bits_there (j + 1) params es others later (All-tail (IsWithin s Has) e es within) in
      let type = plain (unsigned_type (put_width bits_there p.put)) in
      let x = (gives e (put_width bits_there p.put) first (All-head (IsWithin s Has) e es within) width).taken in
      let types = map (λ v. v.type) (parameters_from bits_there (j + 1) params) in record {
        values = converted type (value x.of_type x.k) ∷ rest.values;
        given = ap (and_then (λ v. and_then (λ vs. Gives (converted type v ∷ vs)) (arguments_of here types (map (text s Low false) es)))) x.is.valued
            ∙ ap (and_then (λ vs. Gives (converted type (value x.of_type x.k) ∷ vs))) rest.given;
        are = (
          record {
            typed = refl;
            low = x.low;
            room = mod_below (extended_bits (number_of_type x.of_type) x.k) (2 ^ bits_of (unsigned_type (put_width bits_there p.put))) (pow_pos (bits_of (unsigned_type (put_width bits_there p.put))));
          },
          rest.are,
        );
      }
