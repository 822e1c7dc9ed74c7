-- Frames: flat programs have frame 0 throughout, and every frame is below 32.
-- Assumes nothing.
use mathlib.Core.Path.{◌≡◌, refl, ◌∙◌}
use Prim.Native.Nat.{ℕ, zero, suc, ◌<◌}
use lib.Dec.{lit<}
use Rattle.word.proofs.Tests.{by_test}
use Rattle.form.specs.declared.Kind.{Kind}
use Rattle.maker_draws.specs.Drawn.{Draws}
use Rattle.maker_spec.specs.Made.{Drawable, Profile, flat, frames, jump_taken, jump_frame, frame_after, frame_at}
use Rattle.maker_law.proofs.Making.{by_kind}

pub frame_flat : (d : Draws) (i : ℕ) → frame_at flat d i ≡ 0
unfolding frame_at
frame_flat d zero = refl
frame_flat d (suc i) =
    by_kind (λ (k : Kind). frame_after flat k (d.a i) (d.c i) (frame_at flat d i) ≡ frame_at flat d i) (d.kind i) (d.c i) refl refl refl refl refl
    ∙ frame_flat d i

jump_below : (profile : Profile) (a c fp : ℕ) → a < 32 → fp < 32 → jump_frame profile a c fp < 32
jump_below flat a c fp ha h = h
jump_below frames a c fp ha h = by_test (λ (x : ℕ). x < 32) (jump_taken c) (λ _. ha) (λ _. h)

pub frame_below : (profile : Profile) (d : Draws) → Drawable d → (i : ℕ) → frame_at profile d i < 32
unfolding frame_at
frame_below profile d is zero = lit< tt
frame_below profile d is (suc i) =
    let fp = frame_at profile d i in
    let below = frame_below profile d is i in
    by_kind (λ (k : Kind). frame_after profile k (d.a i) (d.c i) fp < 32) (d.kind i) (d.c i) below below below
    (jump_below profile (d.a i) (d.c i) fp (is.a i) below) below
