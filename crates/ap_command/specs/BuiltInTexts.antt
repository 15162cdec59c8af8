-- The seven files that `work` runs over.
use Rattle.std.specs.Prelude.{ℕ, List, codes}

-- an analyser
unfoldable pub mono_text : List ℕ
mono_text = codes "<dictionary>\n<alphabet>abcdefghijklmnopqrstuvwxyz</alphabet>\n<sdefs><sdef n=\"n\"/><sdef n=\"sg\"/><sdef n=\"pl\"/><sdef n=\"det\"/>\n<sdef n=\"adj\"/><sdef n=\"pr\"/><sdef n=\"sent\"/></sdefs>\n<pardefs><pardef n=\"dog__n\">\n<e><p><l></l><r><s n=\"n\"/><s n=\"sg\"/></r></p></e>\n<e><p><l>s</l><r><s n=\"n\"/><s n=\"pl\"/></r></p></e>\n</pardef></pardefs>\n<section id=\"main\" type=\"standard\">\n<e><i>dog</i><par n=\"dog__n\"/></e>\n<e><i>cat</i><par n=\"dog__n\"/></e>\n<e><p><l>the</l><r>the<s n=\"det\"/></r></p></e>\n<e><p><l>black</l><r>black<s n=\"adj\"/></r></p></e>\n<e><p><l>of</l><r>of<s n=\"pr\"/></r></p></e>\n</section>\n<section id=\"final\" type=\"inconditional\">\n<e><p><l>.</l><r>.<s n=\"sent\"/></r></p></e>\n</section>\n</dictionary>\n"

-- a bilingual dictionary
unfoldable pub bilingual_text : List ℕ
bilingual_text = codes "<dictionary>\n<sdefs><sdef n=\"n\"/><sdef n=\"m\"/><sdef n=\"det\"/><sdef n=\"adj\"/>\n<sdef n=\"pr\"/><sdef n=\"sent\"/></sdefs>\n<section id=\"main\" type=\"standard\">\n<e><p><l>dog<s n=\"n\"/></l><r>perro<s n=\"n\"/><s n=\"m\"/></r></p></e>\n<e><p><l>cat<s n=\"n\"/></l><r>gato<s n=\"n\"/><s n=\"m\"/></r></p></e>\n<e><p><l>the<s n=\"det\"/></l><r>el<s n=\"det\"/></r></p></e>\n<e><p><l>black<s n=\"adj\"/></l><r>negro<s n=\"adj\"/></r></p></e>\n<e><p><l>of<s n=\"pr\"/></l><r>de<s n=\"pr\"/></r></p></e>\n<e><i>.<s n=\"sent\"/></i></e>\n</section>\n</dictionary>\n"

-- rules of transfer: an adjective before a noun
unfoldable pub t1x_text : List ℕ
t1x_text = codes "<transfer default=\"chunk\">\n<section-def-cats><def-cat n=\"adj\"><cat-item tags=\"adj\"/></def-cat>\n<def-cat n=\"nom\"><cat-item tags=\"n.*\"/></def-cat></section-def-cats>\n<section-def-attrs>\n<def-attr n=\"gen\"><attr-item tags=\"m\"/><attr-item tags=\"f\"/></def-attr>\n<def-attr n=\"num\"><attr-item tags=\"sg\"/><attr-item tags=\"pl\"/></def-attr>\n</section-def-attrs>\n<section-rules><rule>\n<pattern><pattern-item n=\"adj\"/><pattern-item n=\"nom\"/></pattern>\n<action><out><chunk name=\"nom_adj\">\n<tags><tag><lit-tag v=\"SN\"/></tag>\n<tag><clip pos=\"2\" side=\"tl\" part=\"gen\"/></tag>\n<tag><clip pos=\"2\" side=\"tl\" part=\"num\"/></tag></tags>\n<lu><clip pos=\"2\" side=\"tl\" part=\"lem\"/><lit-tag v=\"n\"/>\n<clip pos=\"2\" side=\"tl\" part=\"gen\" link-to=\"2\"/>\n<clip pos=\"2\" side=\"tl\" part=\"num\" link-to=\"3\"/></lu>\n<b pos=\"1\"/>\n<lu><clip pos=\"1\" side=\"tl\" part=\"lem\"/><lit-tag v=\"adj\"/>\n<clip pos=\"2\" side=\"tl\" part=\"gen\" link-to=\"2\"/>\n<clip pos=\"2\" side=\"tl\" part=\"num\" link-to=\"3\"/></lu>\n</chunk></out></action>\n</rule></section-rules>\n</transfer>\n"

-- rules of interchunk: none
unfoldable pub t2x_text : List ℕ
t2x_text = codes "<interchunk></interchunk>"

-- rules of postchunk: none
unfoldable pub t3x_text : List ℕ
t3x_text = codes "<postchunk></postchunk>"

-- a dictionary of generation
unfoldable pub gen_text : List ℕ
gen_text = codes "<dictionary>\n<sdefs><sdef n=\"n\"/><sdef n=\"m\"/><sdef n=\"sg\"/><sdef n=\"pl\"/><sdef n=\"det\"/>\n<sdef n=\"adj\"/><sdef n=\"pr\"/><sdef n=\"sent\"/></sdefs>\n<pardefs>\n<pardef n=\"num\"><e><p><l></l><r><s n=\"sg\"/></r></p></e>\n<e><p><l>s</l><r><s n=\"pl\"/></r></p></e></pardef>\n</pardefs>\n<section id=\"main\" type=\"standard\">\n<e><p><l>perro</l><r>perro<s n=\"n\"/><s n=\"m\"/></r></p><par n=\"num\"/></e>\n<e><p><l>gato</l><r>gato<s n=\"n\"/><s n=\"m\"/></r></p><par n=\"num\"/></e>\n<e><p><l>negro</l><r>negro<s n=\"adj\"/><s n=\"m\"/></r></p><par n=\"num\"/></e>\n<e><p><l>el</l><r>el<s n=\"det\"/></r></p></e>\n<e><p><l><a/>de</l><r>de<s n=\"pr\"/></r></p></e>\n<e><p><l>.</l><r>.<s n=\"sent\"/></r></p></e>\n</section>\n</dictionary>\n"

-- a dictionary of post-generation
unfoldable pub post_text : List ℕ
post_text = codes "<dictionary>\n<section id=\"main\" type=\"standard\">\n<e><p><l><a/>de<b/>el</l><r>del</r></p></e>\n</section>\n</dictionary>\n"
