-- A disk over a file whose length was read, and nothing else.
use Rattle.std.proofs.Common.{◌≡◌, ℕ, List, [], Result, Ok, Err, IfOk, subst, sym}
use Rattle.blockdisk.specs.Common.{keeps_still}
use Rattle.imagefile.specs.Common.{FileState, with_failures, image_state, image_keeps, IsImageOf, IsCutImage}
use Rattle.imagefile.specs.Common.{Call, Unseen, recorded, BeganAs, BeganCut}
use Rattle.imagefile.specs.declared.form.Form.{Form}

-- with the number of blocks that the length gives
pub image_began : (form : Form) (u : Unseen) (blocks : ℕ) (s : FileState)
    → IsImageOf form blocks (with_failures (recorded u []) 0) s → BeganAs form u (image_state form blocks s)
image_began form u blocks s image = record {
  size = image.sized;
  still = λ h. keeps_still (image_state form blocks (recorded u [])) (image_state form blocks s)
      (image_keeps form blocks (recorded u []) s (image.keeps h));
}

-- the same for the answer of a call that makes the disk
pub opened_began : {D E : Type 0} (result : Result D E) (form_of : D → Form) (blocks_of : D → ℕ)
    (file_of : D → FileState) (form : Form) (u v : Unseen) (calls : List Call) (failures : ℕ) → v ≡ u → calls ≡ []
    → failures ≡ 0 → IfOk result (λ disk. form_of disk ≡ form)
    → IfOk result (λ disk. IsImageOf form (blocks_of disk) (with_failures (recorded v calls) failures) (file_of disk))
    → IfOk result (λ disk. BeganAs form u (image_state (form_of disk) (blocks_of disk) (file_of disk)))
opened_began (Ok disk) form_of blocks_of file_of form u v calls failures supposed none no_failure formed image =
    let long = blocks_of disk in
    let now = file_of disk in
    let begun = subst (λ x. IsImageOf form long (with_failures (recorded x []) 0) now) supposed
    (subst (λ xs. IsImageOf form long (with_failures (recorded v xs) 0) now) none
    (subst (λ n. IsImageOf form long (with_failures (recorded v calls) n) now) no_failure image)) in
    subst (λ f. BeganAs form u (image_state f long now)) (sym formed) (image_began form u long now begun)
opened_began (Err refused) form_of blocks_of file_of form u v calls failures supposed none no_failure formed image = tt

-- The same for the whole blocks of a file, and the number of bytes after them.

pub image_cut : (form : Form) (u : Unseen) (blocks tail : ℕ) (s : FileState)
    → IsCutImage form blocks tail (with_failures (recorded u []) 0) s → BeganCut form u tail (image_state form blocks s)
image_cut form u blocks tail s image = record {
  size = image.sized;
  short = image.short;
  still = λ h. keeps_still (image_state form blocks (recorded u [])) (image_state form blocks s)
      (image_keeps form blocks (recorded u []) s (image.keeps h));
}

pub opened_cut : {D E : Type 0} (result : Result D E) (form_of : D → Form) (blocks_of tail_of : D → ℕ)
    (file_of : D → FileState) (form : Form) (u v : Unseen) (calls : List Call) (failures : ℕ) → v ≡ u → calls ≡ []
    → failures ≡ 0 → IfOk result (λ cut. form_of cut ≡ form)
    → IfOk result (λ cut. IsCutImage form (blocks_of cut) (tail_of cut) (with_failures (recorded v calls) failures)
    (file_of cut))
    → IfOk result (λ cut. BeganCut form u (tail_of cut) (image_state (form_of cut) (blocks_of cut) (file_of cut)))
opened_cut (Ok cut) form_of blocks_of tail_of file_of form u v calls failures supposed none sound formed image =
    let long = blocks_of cut in
    let tail = tail_of cut in
    let now = file_of cut in
    let begun = subst (λ x. IsCutImage form long tail (with_failures (recorded x []) 0) now) supposed
    (subst (λ xs. IsCutImage form long tail (with_failures (recorded v xs) 0) now) none
    (subst (λ n. IsCutImage form long tail (with_failures (recorded v calls) n) now) sound image)) in
    subst (λ f. BeganCut form u tail (image_state f long now)) (sym formed) (image_cut form u long tail now begun)
opened_cut (Err refused) form_of blocks_of tail_of file_of form u v calls failures supposed none sound formed image = tt
