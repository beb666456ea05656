-- When one view is another: the one relation in which what a stop leaves, what an open finds and what a life has come to are compared. A boot update comes between two of them.
use Rattle.df_theory.specs.{View.{View}, Next.{IsSameBare}}

-- u is the view v, as far as a promise tells views apart: the state is the same, but for the boot and what the superblock records of the state
abbrev pub KeepsView : (v u : View) → Type 0
KeepsView v u = IsSameBare v u

-- a view that keeps v has this property
abbrev pub SomeKeeps : View → (View → Type 0) → Type 0
SomeKeeps v P = (u : View) × KeepsView v u × P u
