-- The variables of two calls that are alike hold the same.
use Rattle.std.proofs.Common.{◌≡◌, ℕ, ◌+◌, ◌*◌, ◌/◌, ◌%◌, ◌^◌, Bool, true, false, ◌||◌, List, [], ◌∷◌, ◌++◌, Option, Some, None, refl, sym, ap, ◌∙◌, subst}
use Rattle.std.specs.Prelude.{is_some, if◌then◌else◌}
use Rattle.std.specs.List.{AllZip}
use Rattle.dcc_c.specs.declared.syntax.Base.{Base}
use Rattle.dcc_c.specs.declared.syntax.Base.TheVariants.{Schar, Uchar, Int, Uint, Long, Ulong}
use Rattle.dcc_c.specs.declared.syntax.CType.{CType}
use Rattle.dcc_c.specs.Token.{same_bytes}
use Rattle.dcc_c.specs.Types.{bits_of, number_of_type, size_of, extended_bits}
use Rattle.dcc_c.specs.Memory.{store}
use Rattle.dcc_c.specs.Tree.{Word, Lines, Variable}
use Rattle.dcc_c.specs.Value.{Value, number, converted, Unplaced, Binding, variable_in, after_assignment}
use Rattle.dcc_c.specs.Placement.{is_auto, is_register, bytes_of, elements, below, takes_address, wants_place, param_places, local_places}
use Rattle.dcc_c.specs.Run.{storage_of, variable_binding, local_bindings, param_bindings, with_arguments}
use Rattle.dcc_respell.specs.Respelled.{SameRoom, AllBits, BindingAlike, VariableAlike}

-- Types of one size.

eight : (a : Base) → bits_of a ≡ 8 * (bits_of a / 8)
eight Schar = refl
eight Uchar = refl
eight Int = refl
eight Uint = refl
eight Long = refl
eight Ulong = refl

same-bits : (a b : Base) → bits_of b / 8 ≡ bits_of a / 8 → bits_of b ≡ bits_of a
same-bits a b same = eight b ∙ ap (λ k. 8 * k) same ∙ sym (eight a)

-- a value has the same bits in types of one size
pub room-bits : (t u : CType) (v : Value) → SameRoom t u → (converted u v).bits ≡ (converted t v).bits
room-bits t u v same =
    ap (λ k. extended_bits (number_of_type v.type) v.bits % 2 ^ k) (same-bits (number_of_type t) (number_of_type u) same)

-- Assignments.

-- variables of one name hold the same
pub found-alike : (bs cs : List Binding) (word : Word) (b c : Binding) → AllZip BindingAlike bs cs → variable_in bs word ≡ Some b → variable_in cs word ≡ Some c → BindingAlike b c
found-alike [] [] word b c is there also = absurd cc
found-alike [] (z ∷ cs) word b c is there also = absurd is
found-alike (y ∷ bs) [] word b c is there also = absurd is
found-alike (y ∷ bs) (z ∷ cs) word b c is there also =
    by (same_bytes y.name word) (same_bytes z.name word) (found-alike bs cs word b c is.1) (ap (λ n. same_bytes n word) is.0.name) there also
  where
    by : (p q : Bool) → (variable_in bs word ≡ Some b → variable_in cs word ≡ Some c → BindingAlike b c) → q ≡ p → (if p then Some y else variable_in bs word) ≡ Some b → (if q then Some z else variable_in cs word) ≡ Some c → BindingAlike b c
    by true true others same here other =
        let y_is : y ≡ b = cc in
        let z_is : z ≡ c = cc in
        subst (λ x. BindingAlike x c) y_is (subst (BindingAlike y) z_is is.0)
    by false false others same later other = others later other
    by true false others same here other = absurd cc
    by false true others same here other = absurd cc

-- the variables after both take the same bits
pub assigned-alike : (bs cs : List Binding) (word : Word) (v w : Value) → AllZip BindingAlike bs cs →
    ((b c : Binding) → variable_in bs word ≡ Some b → variable_in cs word ≡ Some c → (converted c.type w).bits ≡ (converted b.type v).bits) →
    AllZip BindingAlike (after_assignment bs word v) (after_assignment cs word w)
assigned-alike [] [] word v w is same = tt
assigned-alike [] (c ∷ cs) word v w is same = absurd is
assigned-alike (b ∷ bs) [] word v w is same = absurd is
assigned-alike (b ∷ bs) (c ∷ cs) word v w is same =
    by (same_bytes b.name word) (same_bytes c.name word) (assigned-alike bs cs word v w is.1) (ap (λ n. same_bytes n word) is.0.name) same
  where
    by : (p q : Bool) →
        (((x y : Binding) → variable_in bs word ≡ Some x → variable_in cs word ≡ Some y → (converted y.type w).bits ≡ (converted x.type v).bits) → AllZip BindingAlike (after_assignment bs word v) (after_assignment cs word w)) →
        q ≡ p → ((x y : Binding) → (if p then Some b else variable_in bs word) ≡ Some x → (if q then Some c else variable_in cs word) ≡ Some y → (converted y.type w).bits ≡ (converted x.type v).bits) →
        AllZip BindingAlike (if p then record b { storage = Unplaced (converted b.type v).bits } ∷ bs else b ∷ after_assignment bs word v)
        (if q then record c { storage = Unplaced (converted c.type w).bits } ∷ cs else c ∷ after_assignment cs word w)
    by true true others own takes =
        (record { name = is.0.name; array = is.0.array; storage = ap Unplaced (takes b c refl refl); room = is.0.room }, is.1)
    by false false others own takes = (is.0, others takes)
    by true false others own takes = absurd cc
    by false true others own takes = absurd cc

-- The variables of a call that begins.

-- both stand in the same places
pub params-there : (body lines : Lines) (base number : ℕ) (placed : Bool) (vs ws : List Variable) → ((word : Word) → takes_address lines word ≡ takes_address body word) → AllZip VariableAlike vs ws →
    param_places lines base number placed ws ≡ param_places body base number placed vs
params-there body lines base number placed [] [] takes is = refl
params-there body lines base number placed [] (w ∷ ws) takes is = absurd is
params-there body lines base number placed (v ∷ vs) [] takes is = absurd is
params-there body lines base number placed (v ∷ vs) (w ∷ ws) takes is =
    let wants : wants_place lines w ≡ wants_place body v =
    ap (λ c. is_auto c || takes_address lines w.name) is.0.class ∙ ap (λ b. is_auto v.class || b) (takes w.name ∙ ap (takes_address body) is.0.name)
    in
    ap (λ c. if is_register c then None ∷ param_places lines base number placed ws else if placed || wants_place lines w then Some ((base + 2 * number) % 65536) ∷ param_places lines base (number + 1) true ws else None ∷ param_places lines base (number + 1) false ws) is.0.class
    ∙ ap (λ b. if is_register v.class then None ∷ param_places lines base number placed ws else if placed || b then Some ((base + 2 * number) % 65536) ∷ param_places lines base (number + 1) true ws else None ∷ param_places lines base (number + 1) false ws) wants
    ∙ ap (λ ps. if is_register v.class then None ∷ ps else if placed || wants_place body v then Some ((base + 2 * number) % 65536) ∷ param_places lines base (number + 1) true ws else None ∷ param_places lines base (number + 1) false ws) (params-there body lines base number placed vs ws takes is.1)
    ∙ ap (λ ps. if is_register v.class then None ∷ param_places body base number placed vs else if placed || wants_place body v then Some ((base + 2 * number) % 65536) ∷ ps else None ∷ param_places lines base (number + 1) false ws) (params-there body lines base (number + 1) true vs ws takes is.1)
    ∙ ap (λ ps. if is_register v.class then None ∷ param_places body base number placed vs else if placed || wants_place body v then Some ((base + 2 * number) % 65536) ∷ param_places body base (number + 1) true vs else None ∷ ps) (params-there body lines base (number + 1) false vs ws takes is.1)

pub locals-there : (base used : ℕ) (vs ws : List Variable) → AllZip VariableAlike vs ws → local_places base used ws ≡ local_places base used vs
locals-there base used [] [] is = refl
locals-there base used [] (w ∷ ws) is = absurd is
locals-there base used (v ∷ vs) [] is = absurd is
locals-there base used (v ∷ vs) (w ∷ ws) is =
    let bytes : bytes_of w.type w.len ≡ bytes_of v.type v.len =
    ap (λ k. k * elements w.len) is.0.room ∙ ap (λ l. size_of v.type * elements l) is.0.len
    in
    ap (λ c. if is_auto c then Some (below base (used + bytes_of w.type w.len)) ∷ local_places base (used + bytes_of w.type w.len) ws else None ∷ local_places base used ws) is.0.class
    ∙ ap (λ k. if is_auto v.class then Some (below base (used + k)) ∷ local_places base (used + k) ws else None ∷ local_places base used ws) bytes
    ∙ ap (λ ps. if is_auto v.class then Some (below base (used + bytes_of v.type v.len)) ∷ ps else None ∷ local_places base used ws) (locals-there base (used + bytes_of v.type v.len) vs ws is.1)
    ∙ ap (λ ps. if is_auto v.class then Some (below base (used + bytes_of v.type v.len)) ∷ local_places base (used + bytes_of v.type v.len) vs else None ∷ ps) (locals-there base used vs ws is.1)

one-alike : (v w : Variable) (place : Option ℕ) (bits other : ℕ) → VariableAlike v w → other ≡ bits → BindingAlike (variable_binding v place bits) (variable_binding w place other)
one-alike v w place bits other is same = record {
  name = is.name;
  array = ap is_some is.len;
  storage = ap (storage_of place) same;
  room = is.room;
}

pub params-alike : (vs ws : List Variable) (places : List (Option ℕ)) (xs ys : List Value) → AllZip VariableAlike vs ws → AllBits xs ys →
    AllZip BindingAlike (param_bindings vs places xs) (param_bindings ws places ys)
params-alike [] [] places xs ys is same = tt
params-alike [] (w ∷ ws) places xs ys is same = absurd is
params-alike (v ∷ vs) [] places xs ys is same = absurd is
params-alike (v ∷ vs) (w ∷ ws) [] xs ys is same = tt
params-alike (v ∷ vs) (w ∷ ws) (place ∷ places) [] [] is same = tt
params-alike (v ∷ vs) (w ∷ ws) (place ∷ places) [] (b ∷ ys) is same = absurd same
params-alike (v ∷ vs) (w ∷ ws) (place ∷ places) (a ∷ xs) [] is same = absurd same
params-alike (v ∷ vs) (w ∷ ws) (place ∷ places) (a ∷ xs) (b ∷ ys) is same =
    (one-alike v w place a.bits b.bits is.0 same.0.bits, params-alike vs ws places xs ys is.1 same.1)

pub locals-alike : (fill : ℕ) (vs ws : List Variable) (places : List (Option ℕ)) → AllZip VariableAlike vs ws →
    AllZip BindingAlike (local_bindings fill vs places) (local_bindings fill ws places)
locals-alike fill [] [] places is = tt
locals-alike fill [] (w ∷ ws) places is = absurd is
locals-alike fill (v ∷ vs) [] places is = absurd is
locals-alike fill (v ∷ vs) (w ∷ ws) [] is = tt
locals-alike fill (v ∷ vs) (w ∷ ws) (place ∷ places) is =
    (one-alike v w place _ _ is.0 (room-bits v.type w.type (number Int fill) is.0.room), locals-alike fill vs ws places is.1)

pub both-alike : (bs cs ds es : List Binding) → AllZip BindingAlike bs cs → AllZip BindingAlike ds es → AllZip BindingAlike (bs ++ ds) (cs ++ es)
both-alike [] [] ds es is also = also
both-alike [] (c ∷ cs) ds es is also = absurd is
both-alike (b ∷ bs) [] ds es is also = absurd is
both-alike (b ∷ bs) (c ∷ cs) ds es is also = (is.0, both-alike bs cs ds es is.1 also)

-- Memory.

-- after the arguments are written
pub arguments-written : (places : List (Option ℕ)) (xs ys : List Value) (memory : List ℕ) → AllBits xs ys → with_arguments places ys memory ≡ with_arguments places xs memory
arguments-written [] [] [] memory same = refl
arguments-written [] [] (b ∷ ys) memory same = absurd same
arguments-written [] (a ∷ xs) [] memory same = absurd same
arguments-written [] (a ∷ xs) (b ∷ ys) memory same = refl
arguments-written (Some at ∷ places) [] [] memory same = refl
arguments-written (None ∷ places) [] [] memory same = refl
arguments-written (place ∷ places) [] (b ∷ ys) memory same = absurd same
arguments-written (place ∷ places) (a ∷ xs) [] memory same = absurd same
arguments-written (Some at ∷ places) (a ∷ xs) (b ∷ ys) memory same =
    ap (λ k. with_arguments places ys (store k memory at b.bits)) same.0.room
    ∙ ap (λ k. with_arguments places ys (store (size_of a.type) memory at k)) same.0.bits
    ∙ arguments-written places xs ys (store (size_of a.type) memory at a.bits) same.1
arguments-written (None ∷ places) (a ∷ xs) (b ∷ ys) memory same = arguments-written places xs ys memory same.1
