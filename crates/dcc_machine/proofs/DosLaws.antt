-- What INT 21h comes to, by its calls: the one place where they are told apart.
use Rattle.std.proofs.Common.{◌≡◌, ℕ, ◌%◌, Bool, true, false, [], ◌∷◌, refl}
use Rattle.std.specs.Prelude.{◌==◌, if◌then◌else◌}
use Rattle.dcc_run.specs.End.{Exit, Outside}
use Rattle.dcc_num.specs.declared.Reg.TheVariants.{Ax, Dx}
use Rattle.dcc_num.specs.declared.dos.TheConstants.{GETCHE, PUTC, GETCH, PUTS, EXIT}
use Rattle.dcc_machine.specs.Machine.{State, word_in}
use Rattle.dcc_machine.specs.Operations.{with_end}
use Rattle.dcc_machine.specs.Dos.{dos_step, dos_string, key_step, after_write}

-- one of two states, in each of two runs
chosen :
    (R : State → State → Type 0) (so : Bool) (s t u v : State) → (so ≡ true → R s u) → (so ≡ false → R t v)
    → R (if so then s else t) (if so then u else v)
chosen R true s t u v p q = p refl
chosen R false s t u v p q = q refl

-- each call relates two states: what it gives of the one to what it gives of the other
pub record CallsRelate (R : State → State → Type 0) (number at : ℕ) (s t : State) : Type 0 where
  pub putc :
      (number == PUTC) ≡ true
      → R (after_write (word_in s Dx % 256 ∷ []) s) (after_write (word_in t Dx % 256 ∷ []) t)
  pub exit :
      (number == EXIT) ≡ true
      → R (with_end (Exit (word_in s Ax % 256)) at s) (with_end (Exit (word_in t Ax % 256)) at t)
  pub key : (echo : Bool) → R (key_step echo s) (key_step echo t)
  pub puts : (number == PUTS) ≡ true → R (after_write (dos_string s) s) (after_write (dos_string t) t)
  pub outside :
      (number == GETCHE) ≡ false
      → (number == GETCH) ≡ false
      → R (with_end (Outside at) at s) (with_end (Outside at) at t)

-- INT 21h with any number relates two states that each call relates
pub calls-relate :
    (R : State → State → Type 0) (number at : ℕ) (s t : State) → CallsRelate R number at s t
    → R (dos_step number at s) (dos_step number at t)
calls-relate R number at s t calls =
    let last : State → State = λ u. with_end (Outside at) at u in
    let string : State → State = λ u. if number == PUTS then after_write (dos_string u) u else last u in
    let key : State → State = λ u. if number == GETCH then key_step false u else string u in
    let echoed : State → State = λ u. if number == GETCHE then key_step true u else key u in
    let leave : State → State =
    λ u. if number == EXIT then with_end (Exit (word_in u Ax % 256)) at u else echoed u in
    chosen R (number == PUTC) (after_write (word_in s Dx % 256 ∷ []) s) (leave s)
    (after_write (word_in t Dx % 256 ∷ []) t) (leave t) calls.putc (λ no_putc.
    chosen R (number == EXIT) (with_end (Exit (word_in s Ax % 256)) at s) (echoed s)
    (with_end (Exit (word_in t Ax % 256)) at t) (echoed t) calls.exit (λ no_exit.
    chosen R (number == GETCHE) (key_step true s) (key s) (key_step true t) (key t) (λ is. calls.key true) (λ no_getche.
    chosen R (number == GETCH) (key_step false s) (string s) (key_step false t) (string t) (λ is. calls.key false)
    (λ no_getch.
    chosen R (number == PUTS) (after_write (dos_string s) s) (last s) (after_write (dos_string t) t) (last t) calls.puts
    (λ no_puts. calls.outside no_getche no_getch)))))

-- what each call leaves holds after INT 21h with any number
pub calls-leave :
    (P : State → Type 0) (number at : ℕ) (s : State) → P (after_write (word_in s Dx % 256 ∷ []) s)
    → P (with_end (Exit (word_in s Ax % 256)) at s) → ((echo : Bool) → P (key_step echo s))
    → P (after_write (dos_string s) s) → P (with_end (Outside at) at s) → P (dos_step number at s)
calls-leave P number at s putc exit key puts outside =
    calls-relate (λ t u. P t) number at s s (record {
      putc = λ is. putc;
      exit = λ is. exit;
      key = key;
      puts = λ is. puts;
      outside = λ no_getche no_getch. outside;
    })
