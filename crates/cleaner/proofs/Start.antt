-- What Clean begins with: an accepted image's body, its functions, and whether it dispatches at run time.
use Prim.Native.Nat.{ℕ, ◌+◌, ◌/◌, ◌≤◌}
use native.Mathlib.Omega.{arith}
use mathlib.Core.Path.{◌≡◌, refl, sym, ap, subst, ◌∙◌}
use mathlib.Core.Bool.{false}
use mathlib.Core.List.{List}
use lib.ListN.{length, take, drop}
use lib.Seq.{length-take-le}
use Rattle.program.specs.Syntax.{Program}
use Rattle.program.specs.Encode.{put_functions, own_sentence_count}
use Rattle.program.specs.Decode.{body_length}
use Rattle.image.specs.Parts.{Accepted}
use Rattle.program.specs.Bytes.{Bytes}
use Rattle.program.proofs.RoundTrip.{encode-decode}
use Rattle.image.proofs.Accepted.{accepted-long}
use Rattle.meaning.specs.Lists.{any}
use Rattle.meaning.specs.Sites.{Site, program_sites}
use Rattle.meaning.specs.Dispatch.{activates_acarried_call, residual_dispatches_dynamically}
use Rattle.told.specs.Numbered.{Held, sites_of}
use Rattle.told.proofs.Numbered.{numbered-sites}
use Rattle.program.proofs.Own.{own-counted}
use Rattle.index.specs.declared.Plan.{Plan}
use Rattle.index.specs.Layout.{calls}
use Rattle.index.specs.Tables.{SitesAt}
use Rattle.index.specs.Linking.{SomeSites}
use Rattle.cleaning.specs.Prepared.{BodyOf, SomeProgram, ProgramListed}
use Rattle.told.proofs.Asked.{map-any}
use Rattle.cleaner.specs.Delivery.{Delivery}
use Rattle.cleaner.specs.Done.{Done}

module _ (image : List ℕ) (bytes : Bytes image) where
  pub image_small : Accepted image → length image ≤ 32768
  image_small a = let e = encode-decode image a.program bytes a.is in omega (arith, ap length e.0, e.1.1)

  module _ (from : ℕ) (within : from ≤ body_length image) (begins : (a : Accepted image) → drop from (take (body_length image) image) ≡ put_functions a.program.functions) where
    pub body_of : (a : Accepted image) → BodyOf (take (body_length image) image) from a.program
    body_of a =
        let l : length (take (body_length image) image) ≡ body_length image = length-take-le (body_length image) image (omega arith) in
        record {
          within = omega (arith, within, l);
          reading = record { functions = a.program.functions; is = begins a; valid = (encode-decode image a.program bytes a.is).1.0.1 };
          is = refl;
          short = omega (arith, l, accepted-long image bytes a, image_small a);
        }

    pub some-program : (a : Accepted image) (m : List ℕ) (functions sentences : ℕ) → length m ≡ (length image + 3) / 4 → functions ≡ length a.program.functions → sentences ≡ own_sentence_count a.program.functions
        → SomeProgram (take (body_length image) image) from m functions sentences
    some-program a m functions sentences e f s =
        let l : length (take (body_length image) image) ≡ body_length image = length-take-le (body_length image) image (omega arith) in
        record {
          program = a.program;
          body = body_of a;
          functions_are = sym f;
          sentences_are = own-counted a.program.functions ∙ sym s;
          enough = record { enough = omega (arith, l, e, accepted-long image bytes a); small = omega (arith, e, image_small a) };
        }

-- The sites are the program's.
pub dispatch_is : (w : Program) → any (λ (x : Held). activates_acarried_call x.site.callee) (sites_of w) ≡ residual_dispatches_dynamically w
unfolding residual_dispatches_dynamically program_sites
dispatch_is w =
    sym (map-any (λ (x : Held). x.site) (λ (x : Site). activates_acarried_call x.callee) (sites_of w)) ∙ ap (any (λ (x : Site). activates_acarried_call x.callee)) (numbered-sites 0 w.functions)

module _ {b : List ℕ} {w : Program} {m : List ℕ} {p : Plan} (l : ProgramListed b w m p) where
  pub sites-at : {k : ℕ} → k ≡ calls p → SitesAt b (sites_of w) m k
  sites-at e = subst (λ (k : ℕ). SitesAt b (sites_of w) m k) (sym e) l.site

  pub some-sites : {k : ℕ} → k ≡ calls p → SomeSites b m k p.sites
  some-sites e = record { held = sites_of w; entries = sites-at e; count = l.sites }

  pub sites_fit : {k : ℕ} → k ≡ calls p → k + p.sites ≤ length m
  sites_fit e = omega (arith, e, l.fits)

  pub listed_small : (p.functions ≤ 4096) × (p.sentences ≤ 4096)
  listed_small = (omega (arith, l.fits, l.small), omega (arith, l.fits, l.small))

pub delivered : {image : List ℕ} (a : Accepted image) {m : List ℕ} {p : Plan} {root n : ℕ} → Done (take (body_length image) image) a.program m p root n → residual_dispatches_dynamically a.program ≡ false → Delivery image a m p root n
delivered a d s = record { removing = d.removing; static = s; root_is = d.root_is; marked = d.marked }
