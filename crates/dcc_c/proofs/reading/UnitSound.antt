-- What is read of a whole text is what the grammar says.
use Rattle.std.proofs.Common.{◌≡◌, ℕ, zero, suc, ◌+◌, ◌≤◌, ◌<◌, length, List, [], ◌∷◌, map, true, Option, Some, None, refl, sym, ap, ◌∙◌, subst, arith}
use Rattle.std.specs.Prelude.{codes, option_map, if◌then◌else◌, not, ◌&&◌}
use Rattle.std.specs.List.{list_all}
use Rattle.std.proofs.lemmas.Bool.{and_parts, and_from}
use Rattle.dcc_c.specs.Token.{Decimal, Pragma, plain_number as plain_suffix, version_line, stack_line, place_line}
use Rattle.dcc_c.specs.Lexing.{Placed, placed}
use Rattle.dcc_c.specs.Placement.{after_global, bytes_of}
use Rattle.dcc_c.specs.Grammar.{AreFunctions, IsGlobal, AreInitial, AreGlobals, no_global, placed_at, one_global}
use Rattle.dcc_c.specs.Rules.{most_open}
use Rattle.dcc_c.specs.Partial.{NumberAt, PartialVariable}
use Rattle.dcc_c.specs.Reading.{Reader, Got, got, line_of, skip, sees_mark, take_mark}
use Rattle.dcc_c.specs.ReadingStatements.{sees_head, take_head, take_number_of_line, read_size, read_init}
use Rattle.dcc_c.specs.ReadingText.{Begun, read_begun, read_function, with_functions, read_global, size_in_bytes, address_of, Declared, declared, before_declared, read_declared, read_text, reader_of, enough_calls}
use Rattle.dcc_c.specs.Stripped.{plain_number, plain_numbers, plain_global, plain_function, plain_text}
use Rattle.dcc_c.proofs.reading.Passing.{tokens_of, are_tokens, Took, if-cases, take_mark-took}
use Rattle.dcc_c.proofs.reading.Enclosing.{enclosed-before}
use Rattle.dcc_c.proofs.reading.Statements.{IsEnough, is_shallow, with_version, IsText, SoundText}
use Rattle.dcc_c.proofs.reading.Stopping.{GoesOn}
use Rattle.dcc_c.proofs.reading.StmtStopping.{number-keeps}
use Rattle.dcc_c.proofs.reading.Steps.{Steps, then_steps, token_steps, TookPlain, number-sound, head-sound, sees_head-took}
use Rattle.dcc_c.proofs.reading.DeclSound.{size-sound, init-sound}
use Rattle.dcc_c.proofs.reading.TextSound.{ReadsBegun, begun-sound, function-sound, function-keeps, functions-keep, rest-sound}

-- What was read of a text from a place on.
pub record ReadsDeclared (address : Option ℕ) (r : Reader) (g : Got Declared) : Type 0 where
  pub going : r.stop ≡ None
  pub whole : are_tokens r.left ≡ true
  pub enclosed : most_open 0 (tokens_of r.left) ≤ 200
  pub tokens : List Placed
  pub globals : AreGlobals address (tokens_of r.left) (map plain_global g.value.globals) tokens
  pub functions : AreFunctions 200 tokens (map plain_function g.value.functions)
  pub shallow : list_all is_shallow (map plain_function g.value.functions) ≡ true
  pub ends : g.following.left ≡ []

abbrev SoundDeclared : Option ℕ → Reader → Got Declared → Type 0
SoundDeclared address r g = g.following.stop ≡ None → ReadsDeclared address r g

-- Functions, the first of which has begun.
functions-sound : (calls : ℕ) (address : Option ℕ) (r : Reader) → IsEnough (suc calls) 1 r.left → SoundDeclared address r (declared [] (with_functions calls (read_begun r)))
functions-sound calls address r enough going =
    let first = read_function calls (read_begun r) in
    let read = function-sound calls r (read_begun r) (begun-sound r) (omega arith) (functions-keep calls first.following going) in
    let more = rest-sound calls first.following (omega (arith, read.shorter)) going in
    record {
      going = read.steps.passed.going;
      whole = read.steps.passed.whole ∙ more.whole;
      enclosed = read.steps.enclosed more.enclosed;
      tokens = tokens_of r.left;
      globals = no_global;
      functions = more.derived (tokens_of r.left) (plain_function first.value) read.derived;
      shallow = and_from _ _ read.shallow more.shallow;
      ends = more.ends;
    }

with-keeps : (calls : ℕ) (r : Reader) → GoesOn r (with_functions calls (read_begun r)).following
with-keeps calls r going =
    (begun-sound r (function-keeps calls (read_begun r) (functions-keep calls (read_function calls (read_begun r)).following going))).steps.passed.going

-- Global variables.

pub record ReadsGlobal (here : ℕ) (r : Reader) (g : Got PartialVariable) : Type 0 where
  pub steps : Steps 0 0 r g.following
  pub shorter : length g.following.left < length r.left
  pub derived : IsGlobal (tokens_of r.left) (plain_global g.value) (tokens_of g.following.left)
  pub next : here + size_in_bytes g.value ≡ after_global (plain_global g.value)

global-keeps : (calls here : ℕ) (begun : Got Begun) → GoesOn begun.following (read_global calls here begun).following
global-keeps calls here begun going =
    let size = read_size begun.following in
    let init = read_init calls size.following in
    (size-sound begun.following (init-sound calls size.following (take_mark-took (codes ";") init.following going).passed.going).steps.passed.going).steps.passed.going

pub global-sound : (calls here : ℕ) (r : Reader) (begun : Got Begun) → (begun.following.stop ≡ None → ReadsBegun r begun) → begun.value.has_result ≡ true →
    (read_global calls here begun).following.stop ≡ None → ReadsGlobal here r (read_global calls here begun)
global-sound calls here r begun begins has going =
    let size = read_size begun.following in
    let init = read_init calls size.following in
    let following = take_mark (codes ";") init.following in
    let end = take_mark-took (codes ";") init.following going in
    let values = init-sound calls size.following end.passed.going in
    let sized = size-sound begun.following values.steps.passed.going in
    let head = begins sized.steps.passed.going in
    let typed = head.typed has in
    record {
      steps = then_steps head.steps (then_steps sized.steps (then_steps values.steps (token_steps 0 refl end)));
      shorter = omega (arith, head.shorter, sized.steps.passed.fewer, values.steps.passed.fewer, end.one_less);
      derived = record {
        name_at = head.name_at;
        end_at = end.line;
        after_name = tokens_of begun.following.left;
        after_size = tokens_of size.following.left;
        type_is = typed.0;
        name_is = head.good;
        len_is = sized.derived;
        init_is = subst (λ ts. AreInitial (tokens_of size.following.left) (plain_numbers init.value) ts) end.begins values.derived;
      };
      next = ap (λ t. here + elim t [ Some type ↦ bytes_of type (option_map (λ n. n.value) size.value) | None ↦ 0 ]) typed.1;
    }

global_then : (here : ℕ) (r : Reader) (v : Got PartialVariable) (others : Got Declared) → v.value.address ≡ here → ReadsGlobal here r v →
    ReadsDeclared (Some (here + size_in_bytes v.value)) v.following others → ReadsDeclared (Some here) r (before_declared v.value others)
global_then here r v others at read more =
    record {
      going = read.steps.passed.going;
      whole = read.steps.passed.whole ∙ more.whole;
      enclosed = read.steps.enclosed more.enclosed;
      tokens = more.tokens;
      globals = subst (λ a. AreGlobals (Some a) (tokens_of r.left) (map plain_global (v.value ∷ others.value.globals)) more.tokens) at (one_global read.derived (subst (λ a. AreGlobals (Some a) (tokens_of v.following.left) (map plain_global others.value.globals) more.tokens) read.next more.globals));
      functions = more.functions;
      shallow = more.shallow;
      ends = more.ends;
    }

-- Place lines.

place_then : (address : Option ℕ) (r between : Reader) (value : Option NumberAt) (others : Got Declared) → Took (Pragma place_line) r (skip r) →
    TookPlain (skip r) (got value between) → line_of (skip r).left ≡ line_of r.left → ReadsDeclared (Some (address_of value)) between others → ReadsDeclared address r others
place_then address r between value others took read line more =
    let at : read.took.line ≡ took.line = read.took.line_is ∙ (line ∙ sym took.line_is) in
    let steps : Steps 0 0 r between = then_steps (token_steps 0 refl took) (token_steps 0 refl read.took) in
    let tokens : tokens_of r.left ≡ placed took.line (Pragma place_line) ∷ placed took.line (Decimal read.number.value plain_suffix) ∷ tokens_of between.left =
    took.begins ∙ ap (λ ts. placed took.line (Pragma place_line) ∷ ts) (read.took.begins ∙ ap (λ l. placed l (Decimal read.number.value plain_suffix) ∷ tokens_of between.left) at)
    in
    record {
      going = steps.passed.going;
      whole = steps.passed.whole ∙ more.whole;
      enclosed = steps.enclosed more.enclosed;
      tokens = more.tokens;
      globals = rw tokens (placed_at (subst (λ v. AreGlobals (Some (address_of v)) (tokens_of between.left) (map plain_global others.value.globals) more.tokens) read.is more.globals));
      functions = more.functions;
      shallow = more.shallow;
      ends = more.ends;
    }

-- what stands after place lines, at an address or at none
abbrev pub here_declared : ℕ → Option ℕ → Reader → Got Declared
here_declared calls address r = elim address [
  | Some here ↦ if (read_begun r).value.has_result && not (sees_mark (codes "(") (read_begun r).following)
      then before_declared (read_global calls here (read_begun r)).value (read_declared calls (Some (here + size_in_bytes (read_global calls here (read_begun r)).value)) (read_global calls here (read_begun r)).following)
      else declared [] (with_functions calls (read_begun r))
  | None ↦ declared [] (with_functions calls (read_begun r))
]

pub declared-keeps : (calls : ℕ) (address : Option ℕ) (r : Reader) → GoesOn r (read_declared calls address r).following
declared-keeps zero address r = λ going. going
declared-keeps (suc calls) address r =
    let n = take_number_of_line (line_of r.left) (skip r) in
    if-cases (λ (g : Got Declared). GoesOn r g.following) (sees_head place_line r) {x = read_declared calls (Some (address_of n.value)) n.following} {y = here_declared calls address r}
    (λ _ going. number-keeps (line_of r.left) (skip r) (declared-keeps calls (Some (address_of n.value)) n.following going)) (λ _. by address (λ here. declared-keeps calls (Some (here + size_in_bytes (read_global calls here (read_begun r)).value)) (read_global calls here (read_begun r)).following))
  where
    by : (a : Option ℕ) → ((here : ℕ) → GoesOn (read_global calls here (read_begun r)).following (read_declared calls (Some (here + size_in_bytes (read_global calls here (read_begun r)).value)) (read_global calls here (read_begun r)).following).following) →
        GoesOn r (here_declared calls a r).following
    by (Some here) others =
        let v = read_global calls here (read_begun r) in
        if-cases (λ (g : Got Declared). GoesOn r g.following) ((read_begun r).value.has_result && not (sees_mark (codes "(") (read_begun r).following))
        {x = before_declared v.value (read_declared calls (Some (here + size_in_bytes v.value)) v.following)} {y = declared [] (with_functions calls (read_begun r))}
        (λ _ going. (begun-sound r (global-keeps calls here (read_begun r) (others here going))).steps.passed.going) (λ _ going. with-keeps calls r going)
    by None others = λ going. with-keeps calls r going

declared-sound : (calls : ℕ) (address : Option ℕ) (r : Reader) → IsEnough calls 1 r.left → SoundDeclared address r (read_declared calls address r)
declared-sound zero address r enough = absurd (omega arith)
declared-sound (suc calls) address r enough =
    let n = take_number_of_line (line_of r.left) (skip r) in
    if-cases (SoundDeclared address r) (sees_head place_line r) {x = read_declared calls (Some (address_of n.value)) n.following} {y = here_declared calls address r}
    (λ sees going.
    let took = sees_head-took place_line r sees in
    let read = number-sound (line_of r.left) (skip r) (declared-keeps calls (Some (address_of n.value)) n.following going) in
    place_then address r n.following n.value (read_declared calls (Some (address_of n.value)) n.following) took read.0 read.1
    (declared-sound calls (Some (address_of n.value)) n.following (omega (arith, took.one_less, read.0.took.one_less)) going))
    (λ _. by address (λ here room going. declared-sound calls (Some (here + size_in_bytes (read_global calls here (read_begun r)).value)) (read_global calls here (read_begun r)).following room going))
  where
    by : (a : Option ℕ) → ((here : ℕ) → IsEnough calls 1 (read_global calls here (read_begun r)).following.left →
        SoundDeclared (Some (here + size_in_bytes (read_global calls here (read_begun r)).value)) (read_global calls here (read_begun r)).following (read_declared calls (Some (here + size_in_bytes (read_global calls here (read_begun r)).value)) (read_global calls here (read_begun r)).following)) →
        SoundDeclared a r (here_declared calls a r)
    by (Some here) others =
        let v = read_global calls here (read_begun r) in
        let next = read_declared calls (Some (here + size_in_bytes v.value)) v.following in
        if-cases (SoundDeclared (Some here) r) ((read_begun r).value.has_result && not (sees_mark (codes "(") (read_begun r).following))
        {x = before_declared v.value next} {y = declared [] (with_functions calls (read_begun r))}
        (λ is going.
        let has = (and_parts (read_begun r).value.has_result (not (sees_mark (codes "(") (read_begun r).following)) is).0 in
        let read = global-sound calls here r (read_begun r) (begun-sound r) has (declared-keeps calls (Some (here + size_in_bytes v.value)) v.following going) in
        global_then here r v next refl read (others here (omega (arith, read.shorter)) going))
        (λ _ going. functions-sound calls (Some here) r enough going)
    by None others = λ going. functions-sound calls None r enough going

-- The text.

stack_then : (r stack first second : Reader) (lo hi : Option NumberAt) (others : Got Declared) → Took (Pragma stack_line) r stack →
    TookPlain stack (got lo first) → line_of stack.left ≡ line_of r.left → TookPlain first (got hi second) → line_of first.left ≡ line_of r.left →
    ReadsDeclared None second others →
    (are_tokens r.left ≡ true) × IsText (tokens_of r.left) (plain_text (record { lo = lo; hi = hi; globals = others.value.globals; functions = others.value.functions }))
stack_then r stack first second lo hi others took one one_line two two_line read =
    let same_one : one.took.line ≡ took.line = one.took.line_is ∙ (one_line ∙ sym took.line_is) in
    let same_two : two.took.line ≡ took.line = two.took.line_is ∙ (two_line ∙ sym took.line_is) in
    let lo_is : one.number.value ≡ plain_number lo = sym (ap plain_number one.is) in
    let hi_is : two.number.value ≡ plain_number hi = sym (ap plain_number two.is) in
    let steps : Steps 0 0 r second = then_steps (token_steps 0 refl took) (then_steps (token_steps 0 refl one.took) (token_steps 0 refl two.took)) in
    let following : tokens_of first.left ≡ placed took.line (Decimal (plain_number hi) plain_suffix) ∷ tokens_of second.left =
    two.took.begins ∙ (ap (λ l. placed l (Decimal two.number.value plain_suffix) ∷ tokens_of second.left) same_two ∙ ap (λ n. placed took.line (Decimal n plain_suffix) ∷ tokens_of second.left) hi_is)
    in
    let between : tokens_of stack.left ≡ placed took.line (Decimal (plain_number lo) plain_suffix) ∷ tokens_of first.left =
    one.took.begins ∙ (ap (λ l. placed l (Decimal one.number.value plain_suffix) ∷ tokens_of first.left) same_one ∙ ap (λ n. placed took.line (Decimal n plain_suffix) ∷ tokens_of first.left) lo_is)
    in
    let enclosed = steps.enclosed read.enclosed in (
      steps.passed.whole ∙ read.whole,
      record {
        formed = record {
          stack_at = took.line;
          globals = tokens_of second.left;
          functions = read.tokens;
          head_is = ap with_version (took.begins ∙ ap (λ ts. placed took.line (Pragma stack_line) ∷ ts) (between ∙ ap (λ ts. placed took.line (Decimal (plain_number lo) plain_suffix) ∷ ts) following));
          version_is = refl;
          globals_are = read.globals;
          functions_are = read.functions;
        };
        enclosed = enclosed-before (Pragma version_line) 0 1 (tokens_of r.left) (omega arith) enclosed;
        shallow = read.shallow;
      },
    )

text-sound : (calls : ℕ) (r : Reader) → IsEnough calls 1 r.left → (read_text calls r).following.stop ≡ None →
    (are_tokens r.left ≡ true) × IsText (tokens_of r.left) (plain_text (read_text calls r).value) × ((read_text calls r).following.left ≡ [])
text-sound calls r enough going =
    let stack = take_head stack_line r in
    let lo = take_number_of_line (line_of r.left) stack in
    let hi = take_number_of_line (line_of r.left) lo.following in
    let others = read_declared calls None hi.following in
    let two = number-sound (line_of r.left) lo.following (declared-keeps calls None hi.following going) in
    let one = number-sound (line_of r.left) stack two.0.took.passed.going in
    let took = head-sound stack_line r one.0.took.passed.going in
    let read = declared-sound calls None hi.following (omega (arith, took.one_less, one.0.took.one_less, two.0.took.one_less)) going in
    let found = stack_then r stack lo.following hi.following lo.value hi.value others took one.0 one.1 two.0 two.1 read in
    (found.0, found.1, read.ends)

-- what has been read of a text to its end is one
pub sound_text : SoundText
sound_text pieces going = text-sound (enough_calls pieces) (reader_of pieces) (omega arith) going
