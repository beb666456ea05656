-- A run mends one list of units, and ends with one line and one status, by what both files show.
use Rattle.std.{proofs.{Common.{◌≡◌, ◌⊎◌, ℕ, ◌≤◌, ◌^◌, List, [], ◌∷◌, ◌++◌, length, Option, Some, None, refl, sym, ◌∙◌, ap, subst, arith, inl, inr, length-append, append_assoc, append-nil}, lemmas.Option.{same_Some}}, specs.Prelude.{Result, Ok, Err}}
use Rattle.df_base.{specs.{Image.{Image, written}, Log.{Sync}, Streams.{Appends, AppendsPart}}, proofs.Laws.{appends_more}}
use Rattle.{df_disk.specs.Told.{Told, did}, df_inspect.specs.Opening.{open_refusal}, df_theory.specs.Units.{Content, Place}}
use Rattle.df_layout.{proofs.Laws.{same_layout}, specs.{declared.damage.Class.{Class}, declared.places.Place.{Place as FilePlace}}}
use Rattle.df_format.specs.{declared.kind.Kind.{Kind}, declared.superblock.SuperFields.{SuperFields}, Message.{sectors_of}}
use Rattle.df_format.specs.Shown
use Rattle.df_model.specs.{declared.errors.OpenError.{OpenError}, declared.errors.OpenError.TheVariants.{BadField, DiskFault as Failing}}
use Rattle.df_units.specs.{Bytes.{first_at}, Meaning.{place_of}, Wanted.{IsOfKind, checksum_of, class_at}}
use Rattle.{df_checkpoint.specs.Chain.{content_in}, df_opening.specs.Below.{DataFile, shape}}
use Rattle.df_damage.{specs.{Anew.{told_after}, Opening.{HasSuperAs, IsLayoutOf}, Surveys.{HasFile}}, proofs.Laws.{one_super, same_file, same_goes_on, super_as}}
use Rattle.df_mirror.{specs.{declared.ending.Ending.{Ending}, declared.ending.Ending.TheVariants.{First, Neither, Second, Sink, Unopened}, declared.status.Status.{Status}, declared.status.Status.TheVariants.{DiskFault, Refused, WriteFault}, declared.superblock.Superblock.{Superblock}, Known.{AllShown, PassesTrailer}, Mends.{AnswersMending, AreInOrder, AreMends, Came, Failed, FailsAt, IsMend, IsNeither, Mend, lines_of, mirrored_events, under_way, units_shown}, Outcome.{ComesTo, IsWhole, Outcome, OutcomeIsOne, RunStopsBefore, StopsAt, StopsBefore}, Outside.{Outside, Writes, ended}, Refusals.{RefusesFirstTrailer}, Run.{Mirrored, TellsEnd}, Texts.{count_text, mended_text, neither_text}, Walks.{content_of_superblock}}, proofs.{Firsts.{one_next}, Refused.{one_refused, refused_or_next, refused_or_passes}}}

-- ---- what is mended next, and where nothing is

-- the count is that of what was mended
abbrev Counts : ℕ → Result ℕ Ending → Type 0
Counts n (Ok count) = count ≡ n
Counts n (Err e) = Unit {0}

module _ (file : DataFile) (c : Content) (second : Image) where
  -- nothing more is mended of what is shown: why, by the answer
  abbrev EndsAt : Image → Result ℕ Ending → Type 0
  EndsAt shown (Ok count) = AllShown (shape file) (units_shown file shown) c × PassesTrailer (shape file) (units_shown file shown) c
  EndsAt shown (Err (Neither place class)) = IsNeither file c shown second place class
  EndsAt shown (Err (Unopened e)) = RefusesFirstTrailer file shown c e
  EndsAt shown (Err First) = ⊥
  EndsAt shown (Err Second) = ⊥
  EndsAt shown (Err Sink) = ⊥

  one_mend : (shown : Image) (m l : Mend) → IsMend file c shown second m → IsMend file c shown second l → m ≡ l
  one_mend shown m l one two = let same = one_next
      (shape file) (units_shown file shown) c m.kind l.kind m.place l.place (checksum_of m.unit) (checksum_of l.unit) one.next two.next in
      let unit : m.unit ≡ l.unit = same_Some _ _ (sym one.from ∙ ap (λ (p : Place). units_shown file second p) same.1 ∙ two.from) in
      let message : one.sectors.0 ≡ two.sectors.0 = same_Some
      _ _ (sym one.sectors.2 ∙ ap (λ (p : Place). Shown.unit_at file.layout file.cluster second (place_of p)) same.1 ∙ two.sectors.2) in
      let bytes : m.bytes ≡ l.bytes = one.sectors.3 ∙ ap sectors_of message ∙ sym two.sectors.3 in
      λ i. record { kind = same.0 i; place = same.1 i; unit = unit i; bytes = bytes i }

  module _ (most : c.op ≤ 2 ^ 62) where
    no_more : (shown : Image) (result : Result ℕ Ending) (m : Mend) → EndsAt shown result → IsMend file c shown second m → ⊥
    no_more shown (Ok count) m end is = is.lacks (end.0 m.kind m.place (checksum_of m.unit) is.known)
    no_more shown (Err (Neither place class)) m end is = let same =
        one_next (shape file) (units_shown file shown) c m.kind end.kind m.place end.at (checksum_of m.unit) end.sum is.next end.next in
        end.other (record { unit = m.unit; shown = ap (λ (p : Place). units_shown file second p) (sym same.1) ∙ is.from; of_kind = rw same.0 at is.of_kind; sum_is = same.2 })
    no_more shown (Err (Unopened e)) m end is = refused_or_next file shown c most e m.kind m.place (checksum_of m.unit) end is.next is.spare
    no_more shown (Err First) m end is = end
    no_more shown (Err Second) m end is = end
    no_more shown (Err Sink) m end is = end

    all_or_neither : (shown : Image) (place : FilePlace) (class : Class)
        → AllShown (shape file) (units_shown file shown) c → IsNeither file c shown second place class → ⊥
    all_or_neither shown place class all is = is.lacks (all is.kind is.at is.sum is.known)

    refused_or_neither : (shown : Image) (e : OpenError) (place : FilePlace) (class : Class)
        → RefusesFirstTrailer file shown c e → IsNeither file c shown second place class → ⊥
    refused_or_neither shown e place class refused is = refused_or_next file shown c most e is.kind is.at is.sum refused is.next is.spare

    one_end : (shown : Image) (n : ℕ) (r s : Result ℕ Ending) → Counts n r → Counts n s → EndsAt shown r → EndsAt shown s → r ≡ s
    one_end shown n (Ok a) (Ok b) one two end also = ap (λ (k : ℕ). Ok k) (one ∙ sym two)
    one_end shown n (Ok a) (Err (Neither place class)) one two end also = absurd (all_or_neither shown place class end.0 also)
    one_end shown n (Ok a) (Err (Unopened e)) one two end also = absurd (refused_or_passes file shown c most e also end.1)
    one_end shown n (Err (Neither place class)) (Ok b) one two end also = absurd (all_or_neither shown place class also.0 end)
    one_end shown n (Err (Neither place class)) (Err (Neither other kind)) one two end also =
        let same = one_next (shape file) (units_shown file shown) c end.kind also.kind end.at also.at end.sum also.sum end.next also.next in
        let places : place ≡ other = end.place_is ∙ ap place_of same.1 ∙ sym also.place_is in
        let classes : class ≡ kind = end.class_is ∙ ap (λ (p : Place). class_at file.layout file.cluster shown p) same.1 ∙ sym also.class_is in
        λ i. Err (Neither (places i) (classes i))
    one_end shown n (Err (Neither place class)) (Err (Unopened e)) one two end also = absurd (refused_or_neither shown e place class also end)
    one_end shown n (Err (Unopened e)) (Ok b) one two end also = absurd (refused_or_passes file shown c most e end also.1)
    one_end shown n (Err (Unopened e)) (Err (Neither place class)) one two end also = absurd (refused_or_neither shown e place class end also)
    one_end shown n (Err (Unopened e)) (Err (Unopened d)) one two end also =
        ap (λ (x : OpenError). Err (Unopened x)) (one_refused file shown c most e d end also)
    one_end shown n (Err First) s one two end also = absurd end
    one_end shown n (Err Second) s one two end also = absurd end
    one_end shown n (Err Sink) s one two end also = absurd end
    one_end shown n r (Err First) one two end also = absurd also
    one_end shown n r (Err Second) one two end also = absurd also
    one_end shown n r (Err Sink) one two end also = absurd also

    -- ---- lists of mends

    -- a list of mends after which nothing is left to be mended goes on from any other one
    goes_on : (t u : Told) → u.shown ≡ t.shown → (ms ls : List Mend) → AreMends file c second t ms → AreMends file c second u ls
        → (result : Result ℕ Ending) → EndsAt (told_after (mirrored_events file ms) t).shown result → (rest : List Mend) × (ms ≡ ls ++ rest)
    goes_on t u same ms [] are also result end = (ms, refl)
    goes_on t u same [] (l ∷ ls) are also result end = absurd (no_more t.shown result l end (rw same at also.0))
    goes_on t u same (m ∷ ms) (l ∷ ls) are also result end = let head : m ≡ l = one_mend t.shown m l are.0 (rw same at also.0) in
        let shown : (told_after (mirrored_events file (l ∷ [])) u).shown ≡ (told_after (mirrored_events file (m ∷ [])) t).shown =
        λ i. written (first_at file.layout (sym head i).place) (sym head i).bytes (same i) in let rest = goes_on
        (told_after (mirrored_events file (m ∷ [])) t) (told_after (mirrored_events file (l ∷ [])) u) shown ms ls are.1 also.1 result end in
        (rest.0, λ i. head i ∷ rest.1 i)

    none_left : (rest : List Mend) → length rest ≡ 0 → rest ≡ []
    none_left [] none = refl
    none_left (m ∷ rest) none = absurd (omega (arith, none))

    -- two such lists are one
    one_list : (t u : Told) → u.shown ≡ t.shown → (ms ls : List Mend) → AreMends file c second t ms → AreMends file c second u ls → (r s : Result ℕ Ending) → EndsAt (told_after (mirrored_events file ms) t).shown r → EndsAt (told_after (mirrored_events file ls) u).shown s → ms ≡ ls
    one_list t u same ms ls are also r s end ends = let more = goes_on t u same ms ls are also r end in
        let less = goes_on u t (sym same) ls ms also are s ends in let one = ap (λ (l : List Mend). length l) more.1 in
        let two = ap (λ (l : List Mend). length l) less.1 in
        let none = none_left more.0 (omega (arith, one, two, length-append ls more.0, length-append ms less.0)) in
        more.1 ∙ ap (λ (l : List Mend). ls ++ l) none ∙ append-nil ls

-- ---- a run

abbrev last_line : Result ℕ Ending → List ℕ
last_line (Ok count) = count_text count
last_line (Err (Neither place class)) = neither_text place class
last_line (Err (Unopened e)) = open_refusal e
last_line (Err e) = []

abbrev last_status : Result ℕ Ending → Status
last_status (Ok count) = ended count
last_status (Err e) = Refused

abbrev outcome_of : List Mend → Result ℕ Ending → Outcome
outcome_of ms result = record { mends = ms; line = last_line result; status = last_status result }

-- it came so far that nothing was left to be mended: the last line is there, or a part of it
record Reaches (file : DataFile) (c : Content) (t o : Told) (old new : Outside) (status : Status) : Type 0 where
  mends : List Mend
  result : Result ℕ Ending
  are : AreMends file c o.shown t mends
  told : new.first ≡ Some (told_after (mirrored_events file mends) t)
  said : Option (List ℕ)
  printed : Appends old.written said (lines_of mends)
  counts : Counts (length mends) result
  ends : EndsAt file c o.shown (told_after (mirrored_events file mends) t).shown result
  prints : Writes WriteFault (last_line result) (last_status result) said new.written status

-- or a call failed before that
record Stops (file : DataFile) (c : Content) (t o : Told) (old new : Outside) (status : Status) : Type 0 where
  ending : Ending
  text : Option (List ℕ)
  failed : Failed file c AreInOrder t o new.first old.written text ending
  tells : TellsEnd (Err ending) text new.written status

its_error : (file : DataFile) (image : Image) (c : Content) (e : OpenError) → RefusesFirstTrailer file image c e → e ≡ Failing → ⊥
its_error file image c (BadField field value) is same = cc
its_error file image c e is same = is

module _ (b : Superblock) (t o : Told) (old new : Outside) (status : Status) (text : Option (List ℕ)) where
  abbrev c : Content
  c = content_of_superblock b

  reached : (result : Result ℕ Ending) (Last : List Mend → Told → Type 0)
      (came : Came b.file c AreInOrder t o new.first old.written text Last) → Counts (length came.mends) result
      → EndsAt b.file c o.shown (told_after (mirrored_events b.file came.mends) t).shown result
      → Writes WriteFault (last_line result) (last_status result) text new.written status → Reaches b.file c t o old new status
  reached result Last came counts ends prints = record {
    mends = came.mends;
    result = result;
    are = came.does.are;
    told = came.after_is ∙ ap (λ (n : Told). Some n) came.does.told;
    said = text;
    printed = came.does.printed;
    counts = counts;
    ends = ends;
    prints = prints;
  }

  reaches : (result : Result ℕ Ending) → AnswersMending b.file c AreInOrder t o new.first old.written text result
      → ((count : ℕ) (n : Told) → result ≡ Ok count → new.first ≡ Some n → AllShown (shape b.file) (units_shown b.file n.shown) c)
      → ((count : ℕ) (n : Told) → result ≡ Ok count → new.first ≡ Some n → PassesTrailer (shape b.file) (units_shown b.file n.shown) c)
      → TellsEnd result text new.written status → Reaches b.file c t o old new status ⊎ Stops b.file c t o old new status
  reaches (Ok count) came all passes tells = let is = came.after_is ∙ ap (λ (n : Told). Some n) came.does.told in
      let n : Told = told_after (mirrored_events b.file came.mends) t in
      inl (reached (Ok count) _ came came.last (all count n refl is, passes count n refl is) tells)
  reaches (Err (Neither place class)) came all passes tells = inl (reached (Err (Neither place class)) _ came tt
      (subst (λ (n : Told). IsNeither b.file c n.shown o.shown place class) came.does.told came.last.0) tells)
  reaches (Err (Unopened e)) came all passes tells = inl (reached
      (Err (Unopened e)) _ came tt (rw came.does.told at came.last.1) (tells.other (its_error b.file came.after.shown c e came.last.1)))
  reaches (Err First) failed all passes tells = inr (record { ending = First; text = text; failed = failed; tells = tells })
  reaches (Err Second) failed all passes tells = inr (record { ending = Second; text = text; failed = failed; tells = tells })
  reaches (Err Sink) failed all passes tells = inr (record { ending = Sink; text = text; failed = failed; tells = tells })

run_reaches : (b : Superblock) (t o : Told) (old new : Outside) (status : Status) → Mirrored b t o old new status
    → Reaches b.file (content_of_superblock b) t o old new status ⊎ Stops b.file (content_of_superblock b) t o old new status
run_reaches b t o old new status m = reaches b t o old new status m.text m.result m.answers m.shown m.trailer m.tells

-- ---- how it ends

not_whole : (status : Status) → (status ≡ DiskFault) ⊎ (status ≡ WriteFault) → IsWhole status → ⊥
not_whole status (inl disk) (inl done) = cc
not_whole status (inl disk) (inr (inl found)) = cc
not_whole status (inl disk) (inr (inr refused)) = cc
not_whole status (inr sink) (inl done) = cc
not_whole status (inr sink) (inr (inl found)) = cc
not_whole status (inr sink) (inr (inr refused)) = cc

stops_fault : (file : DataFile) (left : List Mend) (line : List ℕ) (mid : Told) (new : Option Told) (said text : Option (List ℕ))
    (status : Status) → StopsAt file left line mid new said text status → (status ≡ DiskFault) ⊎ (status ≡ WriteFault)
stops_fault file [] line mid new said text status (is, inl disk) = inl disk.0
stops_fault file [] line mid new said text status (is, inr sink) = inr sink.0
stops_fault file (m ∷ ms) line mid new said text status (inl disk) = inl disk.0
stops_fault file (m ∷ ms) line mid new said text status (inr sink) = inr sink.0

-- nothing was left to be mended
comes_or_stops : (file : DataFile) (c : Content) (t o : Told) (old new : Outside) (status : Status) (r : Reaches file c t o old new status)
    → ComesTo file c t o old new status (outcome_of r.mends r.result) ⊎ StopsBefore file t old new status (outcome_of r.mends r.result)
comes_or_stops file c t o old new status r = elim r.prints [
  | inl whole ↦ inl (record { are = r.are; told = r.told; printed = appends_more old.written r.said new.written (lines_of r.mends) (last_line r.result) r.printed whole.1; status_is = whole.0 })
  | inr part ↦ inr (record { mends = r.mends; left = []; all = sym (append-nil r.mends); said = r.said; printed = r.printed; stops = (r.told, inr part) })
]

-- a call failed, and so much was left
stop_at : (file : DataFile) (e : Ending) (one : Option Mend) (rest : List Mend) (line : List ℕ) (mid : Told) (new : Option Told)
    (said text last : Option (List ℕ)) (status : Status) → FailsAt file e one mid new said text → TellsEnd (Err e) text last status
    → StopsAt file (under_way one ++ rest) line mid new said last status
stop_at file First None [] line mid new said text last status fails tells = (fails.0, inl (tells.0, tells.1 ∙ fails.1))
stop_at file First None (m ∷ rest) line mid new said text last status fails tells = inl (tells.0, inl fails.0, tells.1 ∙ fails.1)
stop_at file Second None [] line mid new said text last status fails tells = (fails.0, inl (tells.0, tells.1 ∙ fails.1))
stop_at file Second None (m ∷ rest) line mid new said text last status fails tells = inl (tells.0, inl fails.0, tells.1 ∙ fails.1)
stop_at file First (Some m) rest line mid new said text last status fails tells = inl (tells.0, fails.0, tells.1 ∙ fails.1)
stop_at file Sink (Some m) rest line mid new said text last status fails tells = inr (tells.0, fails.0, rw (sym tells.1) at fails.1)
stop_at file Sink None rest line mid new said text last status fails tells = absurd fails
stop_at file Second (Some m) rest line mid new said text last status fails tells = absurd fails
stop_at file (Unopened e) None rest line mid new said text last status fails tells = absurd fails
stop_at file (Unopened e) (Some m) rest line mid new said text last status fails tells = absurd fails
stop_at file (Neither place class) None rest line mid new said text last status fails tells = absurd fails
stop_at file (Neither place class) (Some m) rest line mid new said text last status fails tells = absurd fails

failed_fault : (file : DataFile) (e : Ending) (one : Option Mend) (mid : Told) (new : Option Told) (said text last : Option (List ℕ)) (status : Status) → FailsAt file e one mid new said text → TellsEnd (Err e) text last status → (status ≡ DiskFault) ⊎ (status ≡ WriteFault)
failed_fault file e one mid new said text last status fails tells =
    stops_fault file (under_way one ++ []) [] mid new said last status (stop_at file e one [] [] mid new said text last status fails tells)

-- against a run over what shows the same that came to its end
module _ (file : DataFile) (c : Content) (most : c.op ≤ 2 ^ 62) (t u o : Told) (same : u.shown ≡ t.shown) (old new : Outside)
    (status : Status) (ls : List Mend) (result : Result ℕ Ending) (also : AreMends file c o.shown u ls) (counts : Counts (length ls) result)
    (ends : EndsAt file c o.shown (told_after (mirrored_events file ls) u).shown result) where
  beside : Reaches file c t o old new status ⊎ Stops file c t o old new status
      → ComesTo file c t o old new status (outcome_of ls result) ⊎ StopsBefore file t old new status (outcome_of ls result)
  beside (inl r) = let one : r.mends ≡ ls = one_list file c o.shown most t u same r.mends ls r.are also r.result result r.ends ends in
      let shown : (told_after (mirrored_events file ls) u).shown ≡ (told_after (mirrored_events file r.mends) t).shown =
      same_goes_on (mirrored_events file ls) t u same ∙ ap (λ (l : List Mend). (told_after (mirrored_events file l) t).shown) (sym one) in
      let end : r.result ≡ result = one_end file c o.shown most (told_after (mirrored_events file r.mends) t).shown
      (length ls) r.result result (rw one at r.counts) counts r.ends (rw shown at ends) in
      subst (λ (x : Outcome). ComesTo file c t o old new status x ⊎ StopsBefore file t old new status x) (λ i.
      outcome_of (one i) (end i)) (comes_or_stops file c t o old new status r)
  beside (inr s) = let f = s.failed in
      let more = goes_on file c o.shown most u t (sym same) ls (f.mends ++ under_way f.one) also f.are result ends in inr (record {
        mends = f.mends;
        left = under_way f.one ++ more.0;
        all = more.1 ∙ append_assoc f.mends (under_way f.one) more.0;
        said = f.said;
        printed = f.printed;
        stops = stop_at file s.ending f.one more.0
            (last_line result) (told_after (mirrored_events file f.mends) t) new.first f.said s.text new.written status f.fails s.tells;
      })

-- ---- two runs

module _ (b d : Superblock)
    (image other : Image) (same : image ≡ other) (has : HasFile image b.file b.content) (also : HasFile other d.file d.content) where
  one_content : d.content ≡ b.content
  one_content = one_super image d.content b.content (rw d.version at (rw (sym same) at also.super)) (rw b.version at has.super)

  one_file : d.file ≡ b.file
  one_file = let there : IsLayoutOf d.file.layout b.content = rw one_content at also.layout in same_file d.file b.file
      (same_layout d.file.layout b.file.layout (there.slots ∙ sym has.layout.slots) (there.message_size ∙ sym has.layout.message_size)
      (there.clients ∙ sym has.layout.clients) (there.block_size ∙ sym has.layout.block_size) (there.blocks ∙ sym has.layout.blocks))
      (sym also.cluster ∙ ap (λ (f : SuperFields). f.cluster) one_content ∙ has.cluster) (d.version ∙ sym b.version)

pub run_stops_before : RunStopsBefore
run_stops_before t o u p old new past later status other is also tell tells same second whole = let b = is.base in let d = also.base in
    let cb = content_of_superblock b in let cd = content_of_superblock d in
    let most : cb.op ≤ 2 ^ 62 = (super_as b.file.version b.content is.has.super.usable).1.op in
    elim (run_reaches d (did Sync u) p past later other also.mirrored) [
      | inl r ↦ let files : d.file ≡ b.file = one_file b d t.shown u.shown same is.has also.has in
          let contents : cd ≡ cb = ap (λ (f : SuperFields). content_in f) (one_content b d t.shown u.shown same is.has also.has) in
          let are : AreMends b.file cb o.shown (did Sync u) r.mends =
          rw (sym second) at (rw contents at (rw files at r.are)) in
          let ends : EndsAt b.file cb o.shown (told_after (mirrored_events b.file r.mends) (did Sync u)).shown r.result =
          rw (sym second) at (rw contents at (rw files at r.ends)) in
          let came : ComesTo d.file cd (did Sync u) p past later other (outcome_of r.mends r.result) =
          elim (comes_or_stops d.file cd (did Sync u) p past later other r) [
            | inl comes ↦ comes
            | inr stops ↦ absurd (not_whole other (stops_fault d.file stops.left _ _ _ _ _ other stops.stops) whole)
          ] in
          (outcome_of r.mends r.result, came, beside b.file cb most (did Sync t) (did Sync u) o (sym same) old new status r.mends r.result are r.counts ends (run_reaches b (did Sync t) o old new status is.mirrored))
      | inr s ↦ absurd (not_whole other (failed_fault d.file s.ending s.failed.one (told_after (mirrored_events d.file s.failed.mends)
          (did Sync u)) later.first s.failed.said s.text later.written other s.failed.fails s.tells) whole)
    ]

pub outcome_is_one : OutcomeIsOne
outcome_is_one t o u p old new past later status other is also tell tells same second whole ends =
    let both = run_stops_before t o u p old new past later status other is also tell tells same second ends in elim both.2 [
      | inl comes ↦ (both.0, comes, both.1)
      | inr stops ↦ absurd (not_whole status (stops_fault is.base.file stops.left _ _ _ _ _ status stops.stops) whole)
    ]
