-- The exit statuses by their names.
use Rattle.std.specs.Prelude.{◌≡◌, ◌⊎◌, ℕ, List, [], ◌∷◌}
use Rattle.dcc_run.specs.End.{End, Running, Exit, Divide, Outside, Stuck}

-- what is made is written, or the run ended by its exit
abbrev pub done : ℕ
done = 0

abbrev pub usage : ℕ
usage = 2

abbrev pub no_file : ℕ
no_file = 3

abbrev pub file_fault : ℕ
file_fault = 4

abbrev pub input_fault : ℕ
input_fault = 5

abbrev pub write_fault : ℕ
write_fault = 6

abbrev pub no_memory : ℕ
no_memory = 7

abbrev pub format : ℕ
format = 8

abbrev pub construct : ℕ
construct = 9

abbrev pub limit : ℕ
limit = 10

abbrev pub text_fault : ℕ
text_fault = 11

abbrev pub not_yet : ℕ
not_yet = 12

abbrev pub unfinished : ℕ
unfinished = 20

abbrev pub divided : ℕ
divided = 21

abbrev pub outside : ℕ
outside = 22

abbrev pub foul : ℕ
foul = 23

abbrev pub stuck : ℕ
stuck = 24

abbrev pub listing_fault : ℕ
listing_fault = 25

-- The faults that may come in the place of any answer: of the shelf, of a write, and want of memory; for a run one of
-- the input too.
abbrev pub faults : List ℕ
faults = file_fault ∷ (write_fault ∷ (no_memory ∷ []))

abbrev pub run_faults : List ℕ
run_faults = file_fault ∷ (input_fault ∷ (write_fault ∷ (no_memory ∷ [])))

-- the refusals of a program
abbrev pub refusals : List ℕ
refusals = construct ∷ (limit ∷ (not_yet ∷ []))

-- a run that has not ended by its exit
abbrev pub stops : List ℕ
stops = input_fault ∷ (unfinished ∷ (divided ∷ (outside ∷ (foul ∷ (stuck ∷ [])))))

-- a run of an executable that has ended, or goes on
abbrev pub ends : List ℕ
ends = done ∷ (unfinished ∷ (divided ∷ (outside ∷ [])))

-- an answer after no output
abbrev pub without_output : List ℕ
without_output =
    usage
    ∷ (no_file ∷ (file_fault ∷ (format ∷ (construct ∷ (limit ∷ (text_fault ∷ (not_yet ∷ (listing_fault ∷ []))))))))

-- the status is one of the list
abbrev pub IsOneOf : ℕ → List ℕ → Type 0
IsOneOf status [] = ⊥
IsOneOf status (n ∷ ns) = (status ≡ n) ⊎ IsOneOf status ns

-- the status of a run, by how it has ended
abbrev pub end_status : End → ℕ
end_status Running = unfinished
end_status (Exit code) = done
end_status Divide = divided
end_status (Outside at) = outside
end_status (Stuck line) = stuck
