-- The pieces that are listed are just those of the definitions.
use Rattle.std.proofs.Common.{◌≡◌, inl, inr, ◌<◌, ℕ, ◌+◌, ◌*◌, ◌==◌, ℤ, pos, ◌+ℤ◌, ◌-ℤ◌, ◌≤ℤ◌, Bool, true, false, cond, ◌||◌, length, All, Contains, Option, Some, None, unwrap_or, refl, sym, ap, ◌∙◌, subst, arith}
use Rattle.std.specs.Prelude.{int_le}
use Rattle.std.specs.List.{range_with_len}
use Rattle.std.proofs.lemmas.Int.{ints}
use Rattle.std.proofs.lemmas.Bool.Decides.{Decides-eqb}
use Rattle.std.proofs.lemmas.List.{length-map}
use Rattle.std.proofs.lemmas.List.FromFn.{length-range_with_len, get_or-map-range_with_len}
use Rattle.std.proofs.lemmas.List.Elements.{All-contains, Contains-append_left, Contains-append_right, Contains-append_cases}
use Rattle.dcc_machine.specs.declared.image.Image.{Image}
use Rattle.dcc_prog.specs.declared.procedure.Layout.{Layout}
use Rattle.dcc_machine.specs.declared.instr.Op.{Op}
use Rattle.dcc_machine.specs.declared.instr.Op.TheVariants.{Call}
use Rattle.dcc_prog.specs.Trail.{StandsAt, IsNode, called}
use Rattle.dcc_prog.specs.Frame.{Span, span_of, HasArguments, of_start, of_procedure, argument_word, own_bytes, IsPassedWord, passed, IsUsed, moved, accessed, IsPiece, used, argument}
use Rattle.dcc_prog.proofs.FrameLaws.{arguments-once}
use Rattle.dcc_frames.specs.declared.bytes.Bytes.{Bytes}
use Rattle.dcc_frames.specs.declared.bytes.Piece.{Piece}
use Rattle.dcc_frames.specs.declared.steps.Step.{Step}
use Rattle.dcc_frames.specs.declared.body.Body.{Body}
use Rattle.dcc_frames.specs.Bytes.{as_span, as_bytes}
use Rattle.dcc_frames.specs.Used.{access_of, word_at, moved_of}
use Rattle.dcc_frames.specs.Inside.{own_of, passed_of, has_words}
use Rattle.dcc_frames.specs.Pieces.{piece_of, word_from, words_from, used_by, pieces_of}
use Rattle.dcc_frames.specs.Body.{IsStep, IsBody, HasCounts}
use Rattle.dcc_frames.proofs.Flat.{none-in, one-in, from-flat, to-flat}
use Rattle.dcc_frames.proofs.StepLists.{at-node, is-step}
use Rattle.dcc_frames.proofs.Told.{same_op, access-told, access-tells, moved-told, moved-tells}

-- Words from an offset on.

pub in-words :
    (first : ℤ) (count : ℕ) (user : Option ℕ) (piece : Piece) → Contains (words_from first count user) piece
    → (number : ℕ) × (number < count) × (word_from first user number ≡ piece)
in-words first count user piece (k, inside, is) =
    let f = word_from first user in
    let long : length (words_from first count user) ≡ count =
    length-map (range_with_len 0 count) f ∙ length-range_with_len 0 count in
    let less : k < count = omega (arith, inside, long) in
    (k, less, sym (get_or-map-range_with_len f 0 count k k piece less (omega arith)) ∙ is)

pub words-in :
    (first : ℤ) (count : ℕ) (user : Option ℕ) (number : ℕ) → number < count
    → Contains (words_from first count user) (word_from first user number)
words-in first count user number less =
    let f = word_from first user in
    let long : length (words_from first count user) ≡ count =
    length-map (range_with_len 0 count) f ∙ length-range_with_len 0 count in
    (number, omega (arith, long, less), get_or-map-range_with_len f 0 count number number (f number) less (omega arith))

in-piece : (o : Option Bytes) (user : ℕ) (piece : Piece) → Contains (piece_of o user) piece
    → (o ≡ Some piece.bytes) × (piece.user ≡ Some user)
in-piece None user piece among = absurd (none-in piece among)
in-piece (Some bytes) user piece among =
    let is = one-in (record { bytes = bytes; user = Some user }) piece among in
    (ap (λ (p : Piece). Some p.bytes) is, ap (λ (p : Piece). p.user) (sym is))

piece-in : (o : Option Bytes) (user : ℕ) (bytes : Bytes) → o ≡ Some bytes
    → Contains (piece_of o user) (record { bytes = bytes; user = Some user })
piece-in o user bytes is =
    let one : Piece = record { bytes = bytes; user = Some user } in
    subst (λ (p : Option Bytes). Contains (piece_of p user) one) (sym is) (0, omega arith, refl)

-- an operation that passes words is a call
pub record IsPassing (counts : ℕ → Option ℕ) (op : Op) (count : ℕ) : Type 0 where
  pub target : ℕ
  pub call : op ≡ Call target
  pub found : counts target ≡ Some count

target-found : (counts : ℕ → Option ℕ) (target number : ℕ) (o : Option ℕ) → counts target ≡ o → number < unwrap_or o 0
    → counts target ≡ Some (unwrap_or o 0)
target-found counts target number None is less = absurd (omega (arith, less))
target-found counts target number (Some count) is less = is

pub is-passing : (counts : ℕ → Option ℕ) (op : Op) (number : ℕ) → number < passed_of counts op
    → IsPassing counts op (passed_of counts op)
is-passing counts (Call target) number less =
    record { target = target; call = refl; found = target-found counts target number (counts target) refl less }
is-passing counts op number less = absurd (omega (arith, less))

module _ (image : Image) (layout : Layout) (body : Body) (is : IsBody image layout body) (counts : ℕ → Option ℕ)
    (has : HasCounts image layout counts) where
  -- the number that a call passes
  pub call-count :
      (step : Step) → IsStep image layout body.entry step → (target count : ℕ)
      → StandsAt image layout step.at (Call target)
      → HasArguments image layout target count → passed_of counts step.op ≡ count
  call-count step s target count stands arguments =
      let h = has target (called is.is_entry s.node stands) in
      ap (passed_of counts) (same_op image layout step.at step.op (Call target) s.stands stands)
      ∙ ap (λ o. unwrap_or o 0) h.found
      ∙ arguments-once h.arguments arguments

  used-in :
      (step : Step) → IsStep image layout body.entry step → (span : Span) → IsUsed image layout body.entry step.at span
      → Contains (used_by body.framed counts step) (record { bytes = as_bytes span; user = Some step.at })
  used-in step s span (moved word) =
      Contains-append_left (piece_of (moved_of body.framed step.op step.height) step.at) _ _
      (piece-in (moved_of body.framed step.op step.height) step.at (as_bytes span)
      (ap (λ f. moved_of f step.op step.height) is.framed ∙ moved-told image layout body.entry step s span word))
  used-in step s span (accessed access) =
      Contains-append_right (piece_of (moved_of body.framed step.op step.height) step.at) _ _
      (Contains-append_left (piece_of (access_of body.framed step.op) step.at) _ _
      (piece-in (access_of body.framed step.op) step.at (as_bytes span)
      (ap (λ f. access_of f step.op) is.framed ∙ access-told image layout body.entry step s span access)))
  used-in step s _ (IsUsed.passed (passed {target} {count} {number} {height} stands given arguments less fits)) =
      let word = span_of (pos (2 + 2 * number) -ℤ height) 2 in
      let enough = call-count step s target count stands arguments in
      let same = s.one height given in
      let first : ((pos 2 -ℤ pos step.height) +ℤ pos (2 * number)) ≡ word.first = omega (arith, ints, same) in
      Contains-append_right (piece_of (moved_of body.framed step.op step.height) step.at) _ _
      (Contains-append_right (piece_of (access_of body.framed step.op) step.at) _ _
      (subst (λ f. Contains (words_from (pos 2 -ℤ pos step.height) (passed_of counts step.op) (Some step.at))
      (record { bytes = word_at f; user = Some step.at })) first
      (words-in (pos 2 -ℤ pos step.height) (passed_of counts step.op) (Some step.at) number
      (omega (arith, less, enough)))))

  -- what an instruction uses is among the pieces, with its user
  pub used-told :
      (at : ℕ) (span : Span) → IsNode image layout body.entry at → IsUsed image layout body.entry at span
      → Contains (pieces_of body counts) (record { bytes = as_bytes span; user = Some at })
  used-told at span node uses =
      at-node image layout body.entry body.steps.items is.steps
      (λ at. IsUsed image layout body.entry at span
      → Contains (pieces_of body counts) (record { bytes = as_bytes span; user = Some at }))
      (λ step among s uses.
      Contains-append_right (words_from (pos 4) body.args None) _ _
      (to-flat (used_by body.framed counts) body.steps.items step _ among (used-in step s span uses)))
      at node uses

  -- each piece is, with its user if it has one
  pub piece-told :
      (span : Span) → IsPiece image layout body.entry span
      → (user : Option ℕ) × Contains (pieces_of body counts) (record { bytes = as_bytes span; user = user })
  piece-told span (used {at} node uses) = (Some at, used-told at span node uses)
  piece-told _ (argument {count} {number} arguments less) =
      let same = arguments-once arguments is.arguments in
      let first : (pos 4 +ℤ pos (2 * number)) ≡ pos (4 + 2 * number) = omega (arith, ints) in (
        None,
        Contains-append_left (words_from (pos 4) body.args None) _ _
            (subst (λ f. Contains (words_from (pos 4) body.args None) (record { bytes = word_at f; user = None })) first
            (words-in (pos 4) body.args None number (omega (arith, less, same)))),
      )

  module _ (enough : All (λ (step : Step). has_words counts body.framed step ≡ true) body.steps.items) where
    fits-own :
        (step : Step) (number : ℕ) → has_words counts body.framed step ≡ true → number < passed_of counts step.op
        → pos (2 * number + 2) ≤ℤ own_bytes image layout body.entry (pos step.height)
    fits-own step number has_them less =
        subst (λ f. pos (2 * number + 2) ≤ℤ (cond f (pos step.height -ℤ pos 2) (pos step.height))) is.framed
        (by (passed_of counts step.op == 0) refl)
      where
        by : (b : Bool) → (passed_of counts step.op == 0) ≡ b → pos (2 * number + 2) ≤ℤ own_of body.framed step.height
        by true none =
            absurd (let zero_is = (Decides-eqb (passed_of counts step.op) 0).0 none in omega (arith, zero_is, less))
        by false some =
            let le : int_le (pos (2 * passed_of counts step.op)) (own_of body.framed step.height) ≡ true =
            ap (λ b. b || int_le (pos (2 * passed_of counts step.op)) (own_of body.framed step.height)) (sym some)
            ∙ has_them in
            let le' : pos (2 * passed_of counts step.op) ≤ℤ own_of body.framed step.height = grind (arith, ints, le) in
            omega (arith, ints, le', less)

    used-from :
        (step : Step) → Contains body.steps.items step → IsStep image layout body.entry step → (piece : Piece)
        → Contains (used_by body.framed counts step) piece
        → IsUsed image layout body.entry step.at (as_span piece.bytes) × (piece.user ≡ Some step.at)
    used-from step there s piece among =
        elim (Contains-append_cases (piece_of (moved_of body.framed step.op step.height) step.at) _ piece among) [
          | inl here ↦
              (let m = in-piece (moved_of body.framed step.op step.height) step.at piece here in (
                moved (moved-tells image layout body.entry step s piece.bytes
                    (ap (λ f. moved_of f step.op step.height) (sym is.framed) ∙ m.0)),
                m.1,
              ))
          | inr rest ↦
              elim (Contains-append_cases (piece_of (access_of body.framed step.op) step.at) _ piece rest) [
                | inl here ↦
                    (let m = in-piece (access_of body.framed step.op) step.at piece here in (
                      accessed (access-tells image layout body.entry step s piece.bytes
                          (ap (λ f. access_of f step.op) (sym is.framed) ∙ m.0)),
                      m.1,
                    ))
                | inr words ↦ passed-from words
              ]
        ]
      where
        passed-from :
            Contains (words_from (pos 2 -ℤ pos step.height) (passed_of counts step.op) (Some step.at)) piece
            → IsUsed image layout body.entry step.at (as_span piece.bytes) × (piece.user ≡ Some step.at)
        passed-from words =
            let w = in-words (pos 2 -ℤ pos step.height) (passed_of counts step.op) (Some step.at) piece words in
            let p = is-passing counts step.op w.0 w.1 in
            let stands : StandsAt image layout step.at (Call p.target) = subst (StandsAt image layout step.at)
            p.call s.stands in
            let h = has p.target (called is.is_entry s.node stands) in
            let same : passed_of counts step.op ≡ h.count = (let f = p.found in let g = h.found in let e : Some
            (passed_of counts step.op) ≡ Some h.count = sym f ∙ g in cc) in
            let height : ℤ = pos step.height in
            let first : (pos (2 + 2 * w.0) -ℤ pos step.height) ≡ ((pos 2 -ℤ pos step.height) +ℤ pos (2 * w.0)) =
            omega (arith, ints) in
            let less : w.0 < h.count = (let l = w.1 in omega (arith, l, same)) in
            let word : IsPassedWord image layout body.entry step.at (span_of (pos (2 + 2 * w.0) -ℤ pos step.height) 2) =
            passed stands s.has h.arguments less
            (fits-own step w.0 (All-contains (λ (t : Step). has_words counts body.framed t ≡ true) body.steps.items
            step enough there) w.1) in (
              IsUsed.passed (subst (λ (b : Bytes). IsPassedWord image layout body.entry step.at (as_span b))
                  (ap (λ (q : Piece). q.bytes) w.2)
                  (subst (λ f. IsPassedWord image layout body.entry step.at (span_of f 2)) first word)),
              ap (λ (q : Piece). q.user) (sym w.2),
            )

    -- a piece with a user is used by it; one without is the word of an argument
    record IsTold (piece : Piece) : Type 0 where
      is_piece : IsPiece image layout body.entry (as_span piece.bytes)
      by_user :
          (at : ℕ) → piece.user ≡ Some at
          → IsNode image layout body.entry at × IsUsed image layout body.entry at (as_span piece.bytes)

    told-piece : (piece : Piece) → Contains (pieces_of body counts) piece → IsTold piece
    told-piece piece among = elim (Contains-append_cases (words_from (pos 4) body.args None) _ piece among) [
      | inl words ↦
          (let w = in-words (pos 4) body.args None piece words in
          let first : pos (4 + 2 * w.0) ≡ (pos 4 +ℤ pos (2 * w.0)) = omega (arith, ints) in
          let one : IsPiece image layout body.entry (argument_word w.0) = argument is.arguments w.1 in
          record {
            is_piece =
                subst (λ (b : Bytes). IsPiece image layout body.entry (as_span b)) (ap (λ (q : Piece). q.bytes) w.2)
                (subst (λ f. IsPiece image layout body.entry (span_of f 2)) first one);
            by_user = λ at user_is. absurd (let none = ap (λ (q : Piece). q.user) w.2 in cc);
          })
      | inr rest ↦
          (let f = from-flat (used_by body.framed counts) body.steps.items piece rest in
          let s = is-step image layout body.entry body.steps.items is.steps f.source f.among in
          let u = used-from f.source f.among s piece f.is_in in
          record {
            is_piece = used s.node u.0;
            by_user = λ at user_is.
                (let same : f.source.at ≡ at = (let a = u.1 in let e : Some f.source.at ≡ Some at = sym a
                ∙ user_is in cc) in (
                  subst (IsNode image layout body.entry) same s.node,
                  subst (λ a. IsUsed image layout body.entry a (as_span piece.bytes)) same u.0,
                ));
          })
    ]

    pub piece-tells : (piece : Piece) → Contains (pieces_of body counts) piece
        → IsPiece image layout body.entry (as_span piece.bytes)
    piece-tells piece among = (told-piece piece among).is_piece

    pub used-tells :
        (piece : Piece) (at : ℕ) → Contains (pieces_of body counts) piece → piece.user ≡ Some at
        → IsNode image layout body.entry at × IsUsed image layout body.entry at (as_span piece.bytes)
    used-tells piece at among user_is = (told-piece piece among).by_user at user_is
