-- Reading the head of a function.
use Rattle.std.proofs.Common.{◌≡◌, ◌≤◌, ℕ, Bool, not, codes, Result, Ok, Err, IfOk, List, [], Option, ap, ◌∙◌}
use Rattle.dcc_c.specs.Pieces.{Piece}
use Rattle.dcc_c.specs.Partial.{PartialVariable, PartialFunction, PartialLines, no_rows}
use Rattle.dcc_c.specs.Reading.{Reader, Got, got, is_stopped, sees_word, take_mark}
use Rattle.dcc_c.specs.ReadingStatements.{read_params}
use Rattle.dcc_c.specs.ReadingText.{Begun, read_begun, read_head, reader_of, enough_calls}
use Rattle.dcc_reader.specs.BegunViews.{opened_at}
use Rattle.dcc_reader.proofs.calls.Parameters.{read-head-enough}

-- What holds of a result that was read.
pub ok-map : {A E : Type 0} (r : Result A E) (P Q : A → Type 0) → ((x : A) → P x → Q x) → IfOk r P → IfOk r Q
ok-map (Ok x) P Q f h = f x h
ok-map (Err e) P Q f h = h

-- The head of a function.

abbrev pub with_body : List PartialVariable → PartialLines → Begun → Option ℕ → Bool → List PartialVariable → Bool → PartialFunction
with_body locals body begun opened without params headed = record {
  at = begun.at;
  has_result = begun.has_result;
  result = begun.result;
  name = begun.name;
  opened = opened;
  without_params = without;
  params = params;
  headed = headed;
  locals = locals;
  body = body;
  last = 0;
}

abbrev head : Begun → Option ℕ → Bool → List PartialVariable → Bool → PartialFunction
head begun opened without params headed = with_body [] no_rows begun opened without params headed

-- from the parameters on
abbrev head_filled : Begun → Reader → Got (List PartialVariable) → Got PartialFunction
head_filled begun inside params =
    let end = take_mark (codes ")") params.following in
    got (head begun (opened_at inside) (sees_word (codes "void") inside) params.value (not (is_stopped end))) end

pub head-read : (calls : ℕ) (begun : Got Begun) (inside filled end : Reader) (opened : Option ℕ) (without : Bool)
    (params locals : List PartialVariable) (body : PartialLines) (stopped : Bool) → locals ≡ [] → body ≡ no_rows →
    inside ≡ take_mark (codes "(") begun.following → opened ≡ opened_at inside → without ≡ sees_word (codes "void") inside →
    got params filled ≡ read_params calls inside → end ≡ take_mark (codes ")") filled → stopped ≡ is_stopped end →
    got (with_body locals body begun.value opened without params (not stopped)) end ≡ read_head calls begun
head-read calls begun inside filled end opened without params locals body stopped none empty marks opens voids fills ends stops =
    ap (λ l. got (with_body l body begun.value opened without params (not stopped)) end) none
    ∙ ap (λ b. got (with_body [] b begun.value opened without params (not stopped)) end) empty
    ∙ ap (λ o. got (head begun.value o without params (not stopped)) end) opens
    ∙ ap (λ w. got (head begun.value (opened_at inside) w params (not stopped)) end) voids
    ∙ ap (λ b. got (head begun.value (opened_at inside) (sees_word (codes "void") inside) params (not b)) end) stops
    ∙ ap (λ e. got (head begun.value (opened_at inside) (sees_word (codes "void") inside) params (not (is_stopped e))) e) ends
    ∙ ap (head_filled begun.value inside) fills
    ∙ ap (λ i. head_filled begun.value i (read_params calls i)) marks

-- the head of a function that begins with the first of the pieces, read with calls that are enough
pub head-at : (calls : ℕ) (pieces : List Piece) (begun : Got Begun) (r following : Reader) (f : PartialFunction) → got f following ≡ read_head calls begun →
    begun ≡ read_begun r → r ≡ reader_of pieces → enough_calls pieces ≤ calls →
    f ≡ (read_head (enough_calls pieces) (read_begun (reader_of pieces))).value
head-at calls pieces begun r following f reads begins starts enough =
    ap (λ (g : Got PartialFunction). g.value) (reads
    ∙ ap (read_head calls) (begins ∙ ap read_begun starts)
    ∙ read-head-enough calls pieces enough)
