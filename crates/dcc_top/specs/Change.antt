-- What is told before a call and after it.

-- a value before the call, and after it
pub record Change (T : Type 0) : Type 0 where
  pub before : T
  pub after : T

-- what is told before and after; and what stays
abbrev pub change : {S T : Type 0} → (S → T) → S → S → Change T
change told before after = record { before = told before; after = told after }

abbrev pub same : {T : Type 0} → T → Change T
same value = record { before = value; after = value }
