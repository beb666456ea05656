-- The reports: an open file in numbers, what a survey found, what a tour of the scrubber found, and what a generated run did.
use Rattle.std.specs.Prelude.{ℕ, List, [], ◌∷◌, ◌++◌, ◌+◌, length, codes, decimal, Option, None, Some}
use Rattle.df_layout.specs.{declared.damage.Finding.{Finding}, declared.damage.Mend.{Mend}}
use Rattle.df_model.specs.declared.answers.Summary.{Summary}
use Rattle.df_sessions.specs.declared.session.Session.{Session}
use Rattle.df_script_model.specs.Texts.{body_text, class_text, line_of, numbered, place_text, spaced}
use Rattle.df_inspect.specs.{declared.counts.Workload.{Workload}, Opening.{layout_text}}

-- a line of a word and a number
abbrev pub row_text : List ℕ → ℕ → List ℕ
row_text word n = line_of (numbered word n)

-- the texts of a list's items one after the other, each with its place, counted from this one on
abbrev pub each_text : {A : Type 0} → (ℕ → A → List ℕ) → ℕ → List A → List ℕ
each_text text place [] = []
each_text text place (x ∷ more) = text place x ++ each_text text (place + 1) more

-- ---- a file in numbers

-- cluster, layout, the superblock's sequence, the ops of checkpoint and head, and how many replies, sessions and references there are
abbrev pub summary_text : Summary → List ℕ
summary_text s =
    row_text (codes "cluster") s.cluster ++ (line_of (spaced (codes "layout") (layout_text s.layout))
    ++ (row_text (codes "sequence") s.sequence ++ (row_text (codes "checkpoint") s.checkpoint_op ++ (row_text (codes "head") s.head
    ++ (row_text (codes "replies") s.replies ++ (row_text (codes "sessions") s.sessions ++ row_text (codes "references") s.references))))))

-- ---- what a survey found

-- whether the reply to a session's request is stored
abbrev pub stored_text : {A : Type 0} → Option A → List ℕ
stored_text None = codes "pending"
stored_text (Some reply) = codes "stored"

-- the session at this place
abbrev pub session_text : ℕ → Session → List ℕ
session_text place s =
    line_of (spaced (numbered (codes "session") place) (spaced (numbered (codes "client") s.client) (spaced (numbered (codes "request") s.request)
    (spaced (numbered (codes "op") s.op) (stored_text s.reply)))))

-- a place that is to be written again, and what it shows
abbrev pub mend_text : Mend → List ℕ
mend_text m = line_of (spaced (codes "mend") (spaced (place_text m.place) (class_text m.«class»)))

-- the numbers, the root, each session in order of its place, each place to be mended, and how many these are
abbrev pub inspection_text : Summary → List ℕ → List Session → List Mend → List ℕ
inspection_text s root sessions mends =
    summary_text s ++ (line_of (spaced (codes "root") (body_text root)) ++ (each_text session_text 0 sessions
    ++ (each_text (λ place m. mend_text m) 0 mends ++ row_text (codes "findings") (length mends))))

-- ---- what the scrubber found

-- a finding of the ring after a space
abbrev pub finding_text : Finding → List ℕ
finding_text f = 32 ∷ spaced (decimal f.address) (class_text f.«class»)

-- a block that fails its check
abbrev pub failing_text : Finding → List ℕ
failing_text f = line_of (spaced (numbered (codes "failing") f.address) (class_text f.«class»))

-- each block that fails
abbrev pub failing_texts : List Finding → List ℕ
failing_texts [] = []
failing_texts (f ∷ more) = failing_text f ++ failing_texts more

-- ---- what a generated run did

-- what was done and refused, the bytes of the bodies that were appended, and the file after it
abbrev pub workload_text : Workload → List ℕ
workload_text w =
    row_text (codes "appended") w.appended ++ (row_text (codes "replied") w.replied ++ (row_text (codes "wrote") w.wrote
    ++ (row_text (codes "released") w.released ++ (row_text (codes "checkpoints") w.checkpoints ++ (row_text (codes "refused") w.refused
    ++ (row_text (codes "bytes") w.bytes ++ (row_text (codes "head") w.head ++ (row_text (codes "replies") w.replies
    ++ row_text (codes "sequence") w.sequence))))))))
