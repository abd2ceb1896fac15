-- What several reads or writes do, where the bytes are told.
use Rattle.std.proofs.Common.{◌≡◌, ℕ, ◌+◌, ◌-◌, ◌≤◌, List, [], ◌∷◌, ◌++◌, length, take, drop, refl, sym, ◌∙◌, ap, append_assoc, arith, length-append}
use Rattle.std.proofs.Math.Seq.{take-add, take-append-add}
use Rattle.std.proofs.lemmas.List.{append-nil, take-append-le}
use Rattle.std.specs.Prelude.{Option, None, Some}
use Rattle.dcc_io.proofs.ListLemmas.{drop_range}
use Rattle.dcc_io.specs.Told.{append_told, prepend_told, AppendsProperPrefix}

-- appending nothing
pub append_told-nil : (told : Option (List ℕ)) → append_told told [] ≡ told
unfolding append_told
append_told-nil None = refl
append_told-nil (Some held) = ap Some (append-nil held)

-- appending twice
pub append_told-append : (told : Option (List ℕ)) (xs ys : List ℕ) → append_told (append_told told xs) ys ≡ append_told told (xs ++ ys)
unfolding append_told
append_told-append None xs ys = refl
append_told-append (Some held) xs ys = ap Some (append_assoc held xs ys)

-- appending to bytes that are told
pub append_told-some : (held bytes : List ℕ) → append_told (Some held) bytes ≡ Some (held ++ bytes)
unfolding append_told
append_told-some held bytes = refl

-- the next bytes of a piece, of which the first are appended
pub append_told-take : (told : Option (List ℕ)) (piece : List ℕ) (m n : ℕ) → append_told (append_told told (take m piece)) (take n (take (length piece - m) (drop m piece))) ≡ append_told told (take (m + n) piece)
append_told-take told piece m n =
    append_told-append told (take m piece) (take n (take (length piece - m) (drop m piece)))
    ∙ ap (λ (xs : List ℕ). append_told told (take m piece ++ take n xs)) (drop_range piece m)
    ∙ ap (append_told told) (sym (take-add m n piece))

-- taking nothing
pub prepend_told-nil : (told : Option (List ℕ)) → prepend_told [] told ≡ told
unfolding prepend_told
prepend_told-nil None = refl
prepend_told-nil (Some rest) = refl

-- taking twice
pub prepend_told-append : (told : Option (List ℕ)) (xs ys : List ℕ) → prepend_told xs (prepend_told ys told) ≡ prepend_told (xs ++ ys) told
unfolding prepend_told
prepend_told-append None xs ys = refl
prepend_told-append (Some rest) xs ys = ap Some (sym (append_assoc xs ys rest))

-- bytes in front of those that are told
pub prepend_told-some : (bytes rest : List ℕ) → prepend_told bytes (Some rest) ≡ Some (bytes ++ rest)
unfolding prepend_told
prepend_told-some bytes rest = refl

-- where the bytes were told before a read, they are told after it
pub record TellsRest (before : List ℕ) (left : Option (List ℕ)) (bytes : List ℕ) : Type 0 where
  pub rest : List ℕ
  pub told : left ≡ Some rest
  pub split : before ≡ bytes ++ rest

pub tells_rest : (before : List ℕ) (left : Option (List ℕ)) (bytes : List ℕ) → Some before ≡ prepend_told bytes left → TellsRest before left bytes
unfolding prepend_told
tells_rest before None bytes taken = cc
tells_rest before (Some rest) bytes taken = record { rest = rest; told = refl; split = cc }

-- some bytes, and then a part of more: a part of all of them
pub AppendsProperPrefix-after : (old mid new : Option (List ℕ)) (xs ys : List ℕ) → mid ≡ append_told old xs → AppendsProperPrefix mid new ys → AppendsProperPrefix old new (xs ++ ys)
AppendsProperPrefix-after old mid new xs ys first part = record {
  count = length xs + part.count;
  proper = omega (arith, part.proper, length-append xs ys);
  appended =
      part.appended
      ∙ ap (λ told. append_told told (take part.count ys)) first
      ∙ append_told-append old xs (take part.count ys)
      ∙ ap (append_told old) (sym (take-append-add xs ys part.count));
}

-- a part of a piece is a part of a longer one
pub AppendsProperPrefix-longer : (old new : Option (List ℕ)) (xs ys : List ℕ) → AppendsProperPrefix old new xs → AppendsProperPrefix old new (xs ++ ys)
AppendsProperPrefix-longer old new xs ys part =
    let within : part.count ≤ length xs = omega (arith, part.proper) in
    record {
      count = part.count;
      proper = omega (arith, part.proper, length-append xs ys);
      appended = part.appended ∙ ap (append_told old) (sym (take-append-le part.count xs ys within));
    }

-- of one byte only nothing is a part
pub AppendsProperPrefix-one : (old new : Option (List ℕ)) (byte : ℕ) → AppendsProperPrefix old new (byte ∷ []) → new ≡ old
AppendsProperPrefix-one old new byte part =
    let none : part.count ≡ 0 = omega (arith, part.proper) in
    part.appended ∙ ap (λ (n : ℕ). append_told old (take n (byte ∷ []))) none ∙ append_told-nil old

-- what follows for several reads or writes
pub ruleset told_steps = (append_told-nil, append_told-append, append_told-some, append_told-take, prepend_told-nil, prepend_told-append, prepend_told-some)
