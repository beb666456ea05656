-- A format ends in a tidy file.
use Rattle.std.proofs.Common.{◌≡◌, ◌⊎◌, inl, inr, ℕ, ◌<◌, List, [], ◌∷◌, false, Option, Some, None, refl, sym, ◌∙◌, ap, subst, arith, true}
use Rattle.df_theory.{specs.{Units.{AnyUnit, Content, CopyPlace, CopyUnit, Header, HeaderPlace, HeaderUnit, Message, Parts, Units, or_else, overlay}, Tails.{In}, Shape.{Shape}, View.{View}, Holds.{IsWhole}, UnitLog.{PutsOne, UnitLog, now, wrote}, First.{IsFirst}, Rests.{IsQuiet}, Runs.{Step, Syncs, after_steps}, MakingLaws.{AllReserved, PutsReserved, all_puts, format_steps}, MendLaws.{Reaches}, TidyLaws.{TidyFormatLaw}, CopyPuts.{PutsCopies, update_steps}}, proofs.{Clear.{clear_one}, Writes.{put_else}, Runs.{after_append}, Births.{format_law}, Keeps.{four, copy_here, copy_over}}}

-- a slot that some write reaches shows a header
abbrev ShowsHeader : Units → ℕ → Type 0
ShowsHeader image s = (h : Header) × (image (HeaderPlace s) ≡ Some (HeaderUnit h))

reserved_still : (put image : Units) (s : ℕ) → PutsReserved put → ShowsHeader image s → ShowsHeader (overlay put image) s
reserved_still put image s reserved shown = go (put (HeaderPlace s)) refl
  where
    go : (o : Option AnyUnit) → put (HeaderPlace s) ≡ o → ShowsHeader (overlay put image) s
    go None none = (shown.0, ap (λ (o : Option AnyUnit). or_else o (image (HeaderPlace s))) none ∙ shown.1)
    go (Some y) some = let e = reserved (HeaderPlace s) y some in
        (e.1, ap (λ (o : Option AnyUnit). or_else o (image (HeaderPlace s))) some ∙ ap Some e.3)

reserved_here : (put image : Units) (s : ℕ) (y : AnyUnit)
    → PutsReserved put → put (HeaderPlace s) ≡ Some y → ShowsHeader (overlay put image) s
reserved_here put image s y reserved some = let e = reserved (HeaderPlace s) y some in
    (e.1, ap (λ (o : Option AnyUnit). or_else o (image (HeaderPlace s))) some ∙ ap Some e.3)

all_reached : (puts : List Units) (log : UnitLog) (s : ℕ)
    → AllReserved puts → ShowsHeader (now log) s ⊎ Reaches puts (HeaderPlace s) → ShowsHeader (now (after_steps (all_puts puts) log)) s
all_reached [] log s all (inl shown) = shown
all_reached [] log s all (inr none) = absurd none
all_reached (put ∷ puts) log s all (inl shown) = all_reached puts (wrote put log) s all.1 (inl (reserved_still put (now log) s all.0 shown))
all_reached (put ∷ puts) log s all (inr (inl here)) =
    all_reached puts (wrote put log) s all.1 (inl (reserved_here put (now log) s here.0 all.0 here.1))
all_reached (put ∷ puts) log s all (inr (inr there)) = all_reached puts (wrote put log) s all.1 (inr there)

-- the image with the four copies over it
module _ (sh : Shape) (v : View) (under : Units) (puts : PutsCopies v.checkpoint.content) (first : IsFirst sh v) where
  abbrev c : Content
  c = v.checkpoint.content

  abbrev over : Units
  over = overlay puts.put3 (overlay puts.put2 (overlay puts.put1 (overlay puts.put0 under)))

  over_copies : (n : ℕ) → n < 4 → over (CopyPlace n) ≡ Some (CopyUnit c)
  over_copies n below = let i0 : Units = overlay puts.put0 under in let i1 : Units = overlay puts.put1 i0 in
      let i2 : Units = overlay puts.put2 i1 in elim (four n below) [
        | inl is ↦ rw (sym is) at (copy_over puts.put3 i2 3 0 c puts.one3 (λ e. omega arith) ∙ copy_over puts.put2 i1 2 0 c puts.one2 (λ e.
            omega arith) ∙ copy_over puts.put1 i0 1 0 c puts.one1 (λ e. omega arith) ∙ copy_here puts.put0 under 0 c puts.one0)
        | inr (inl is) ↦ rw (sym is) at (copy_over puts.put3 i2 3 1 c puts.one3 (λ e. omega arith)
            ∙ copy_over puts.put2 i1 2 1 c puts.one2 (λ e. omega arith) ∙ copy_here puts.put1 i0 1 c puts.one1)
        | inr (inr (inl is)) ↦ rw (sym is) at (copy_over puts.put3 i2 3 2 c puts.one3 (λ e. omega arith) ∙ copy_here puts.put2 i1 2 c puts.one2)
        | inr (inr (inr is)) ↦ rw (sym is) at (copy_here puts.put3 i2 3 c puts.one3)
      ]

  no_header : (put image : Units) (k s : ℕ)
      → PutsOne put (CopyPlace k) (CopyUnit c) → overlay put image (HeaderPlace s) ≡ image (HeaderPlace s)
  no_header put image k s one = put_else put image (CopyPlace k) (HeaderPlace s) (CopyUnit c) one (λ same. cc (same))

  pub over_whole : ((s : ℕ) → s < sh.layout.slots → ShowsHeader under s) → IsWhole sh over v
  over_whole headers = record {
    copies = over_copies;
    headers = λ s below. let shown = headers s below in let i0 : Units = overlay puts.put0 under in let i1 : Units = overlay puts.put1 i0 in
        let i2 : Units = overlay puts.put2 i1 in (
          shown.0,
          no_header puts.put3 i2 3 s puts.one3
              ∙ no_header puts.put2 i1 2 s puts.one2 ∙ no_header puts.put1 i0 1 s puts.one1 ∙ no_header puts.put0 under 0 s puts.one0 ∙ shown.1,
          λ p at mine. absurd (rw first.tail at at),
        );
  }

pub tidy_format_law : TidyFormatLaw
tidy_format_law sh log v headers puts making first reserved reached = let made = format_law sh log v headers puts making first reserved in
    let steps : List Step = Syncs ∷ update_steps puts in let under : UnitLog = after_steps (all_puts headers) log in
    let same : after_steps (format_steps headers puts) log ≡ after_steps steps under = after_append (all_puts headers) steps log in (
      record {
        rests = made.1;
        quiet = subst IsQuiet (sym same) (λ place wet. absurd (let no_unit : false ≡ true = wet in cc));
        clear = clear_one sh (after_steps (format_steps headers puts) log) v made.1 first.content.pin.0;
        whole = rw same (over_whole sh v (now under) puts first (λ s below. all_reached headers log s reserved (inr (reached s below))));
      },
      record { shown = λ a c is. absurd (unreferenced a c is); firm = λ a c is. absurd (unreferenced a c is) },
    )
  where
    unreferenced : (a c : ℕ) → v.checkpoint.parts.references a ≡ Some c → ⊥
    unreferenced a c is = let none : None ≡ Some c = ap (λ (p : Parts). p.references a) (sym first.parts) ∙ is in cc
